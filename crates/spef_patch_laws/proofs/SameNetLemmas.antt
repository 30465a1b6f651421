-- Nets that stay, and nets that are written, by their names.
use Rattle.std.proofs.Common.{◌≡◌, ℕ, inl, inr, false, List, sym, subst}
use Rattle.spef_file.specs.declared.header.Header.{Header}
use Rattle.spef_file.specs.Files.{File, IsFileOf}
use Rattle.spef_file.specs.Nets.{NetHead}
use Rattle.spef_net.specs.declared.net.ParNet.{ParNet}
use Rattle.spef_net.specs.Denoted.{IsNet}
use Rattle.spef_wire.specs.Nets.{IsMissing, IsNetNamed}
use Rattle.spef_wire.proofs.AnswerLemmas.{nets_are, not_faulty}
use Rattle.spef_write.specs.Sections.{IsWritable}
use Rattle.spef_write.specs.SectionLaws.{IsMeantBy, IsWrittenAgain}
use Rattle.spef_write.proofs.SayLemmas.{inner_lines_say}
use Rattle.spef_patch_laws.specs.NetTexts.{NetText, text_names}
use Rattle.spef_patch_laws.specs.SectionLaws.{IsNetOfText}
use Rattle.spef_patch_laws.specs.Sections.{written_text}
use Rattle.spef_patch_laws.specs.ReplacementLaws.{HasSameNet, IsReadAgain}
use Rattle.spef_patch_laws.proofs.ReadLemmas.{written_texts}
use Rattle.spef_patch_laws.proofs.ApartLemmas.{In, Apart}
use Rattle.spef_patch_laws.proofs.ItemLemmas.{Item, olds, news, stays, gones, puts, new_from, old_from, stay_new, stay_old, put_new, in_names, stays_gones}
use Rattle.spef_patch_laws.proofs.NamedLemmas.{texts_of, named_text, text_named, missing_text, text_missing, net_with, net_without}
use Rattle.spef_patch_laws.proofs.BuiltLemmas.{some_net}

-- two files that say the same but of their nets, some of which are replaced
module _ (text new : List ℕ) (file : File) (nets : List NetHead) (items : List Item) (said : IsFileOf text file) (said_new : IsFileOf new (record file { nets = nets }))
    (were : texts_of text file ≡ olds items) (are : texts_of new (record file { nets = nets }) ≡ news items) where
  abbrev other : File
  other = record file { nets = nets }

  named : (texts : List NetText) (name : List ℕ) (t : NetText) → In t texts → t.name ≡ name → In name (text_names texts)
  named texts name t there e = subst (λ n. In n (text_names texts)) e (in_names t texts there)

  -- a net that stays
  module _ (name : List ℕ) (none_gone : In name (text_names (gones items)) → ⊥) (none_put : In name (text_names (puts items)) → ⊥) where
    there_new : (t : NetText) → In t (texts_of text file) → t.name ≡ name → In t (texts_of new other)
    there_new t there e = elim (old_from t items (subst (In t) were there)) as (λ _. In t (texts_of new other)) [
      | inl stay ↦ subst (In t) (sym are) (stay_new t items stay)
      | inr gone ↦ absurd (none_gone (named (gones items) name t gone e))
    ]

    there_old : (t : NetText) → In t (texts_of new other) → t.name ≡ name → In t (texts_of text file)
    there_old t there e = elim (new_from t items (subst (In t) are there)) as (λ _. In t (texts_of text file)) [
      | inl stay ↦ subst (In t) (sym were) (stay_old t items stay)
      | inr put ↦ absurd (none_put (named (puts items) name t put e))
    ]

    pub same_net : HasSameNet text new name
    same_net = record {
      stays = λ net is.
          let h = named_text text file name net said is in
          subst (λ n. IsNetNamed new n net) h.named (text_named new other h.text_of net said_new (there_new h.text_of h.there h.named) (net_with file nets h.text_of net h.net_of));
      stood = λ net is.
          let h = named_text new other name net said_new is in
          subst (λ n. IsNetNamed text n net) h.named (text_named text file h.text_of net said (there_old h.text_of h.there h.named) (net_without file nets h.text_of net h.net_of));
      missing = λ is. text_missing new other name said_new (λ t there e. missing_text text file name said is t (there_old t there e) e);
      was_missing = λ is. text_missing text file name said (λ t there e. missing_text new other name said_new is t (there_new t there e) e);
    }

  -- one that is replaced
  pub gone_net : (name : List ℕ) → Apart (text_names (olds items)) → In name (text_names (gones items)) → (In name (text_names (puts items)) → ⊥) → IsMissing new name
  gone_net name apart gone none_put = text_missing new other name said_new (λ t there e. elim (new_from t items (subst (In t) are there)) [
    | inl stay ↦ stays_gones items apart name (named (stays items) name t stay e) gone
    | inr put ↦ none_put (named (puts items) name t put e)
  ])

  -- and one that is written
  pub written_net : (header : Header) (net : ParNet) → IsMeantBy header file → IsWritable net → In (written_text header net) (puts items) → IsReadAgain new net
  written_net header net meant writable put =
      let t = written_text header net in
      let (read, is) = some_net header net writable in
      let again = written_texts file header net meant writable in
      let net_of : IsNetOfText file t read = record { faultless = again.0; denoted = subst (λ s. IsNet net.name false s read) (sym (inner_lines_say file header net meant writable)) is } in
      let there : IsNetNamed new net.name read = text_named new other t read said_new (subst (In t) (sym are) (put_new t items put)) (net_with file nets t read net_of) in
      record {
        read = read;
        named = there;
        again = λ one is_one. subst (IsWrittenAgain net) (nets_are new net.name read one there is_one) (again.1 read net_of);
        clear = λ fault faulty. not_faulty new net.name read fault there faulty;
      }
