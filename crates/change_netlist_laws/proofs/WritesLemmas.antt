-- A text is that of one net, and pins have names.
use Rattle.std.proofs.Common.{◌≡◌, ℕ, ◌<◌, ◌≤◌, ◌^◌, true, List, [], ◌∷◌, length, Option, Some, None, inl, refl, sym, ap, ◌∙◌, subst, arith}
use Rattle.std.specs.Prelude.{IfSome, slice_get}
use Rattle.std.specs.Fmt.{decimal}
use Rattle.std.proofs.lemmas.Bool.{and_parts}
use Rattle.vg_num.specs.Number.{value_of}
use Rattle.vg_num.proofs.ReadingLemmas.{decimal_writes}
use Rattle.ver_patch_text_laws.proofs.SectionLemmas.{in_pins, pin_found}
use Rattle.ver_file.specs.Modules.{Denotes}
use Rattle.ver_items.specs.Sections.{bytes_at}
use Rattle.ver_patch_laws.specs.Links.{NetName, name_of_net}
use Rattle.ver_patch_laws.proofs.RelinkedLemmas.{In}
use Rattle.ver_module.specs.Netlists.{Instance, Netlist, Pin}
use Rattle.ver_patch_laws.specs.Consistent.{Writes}
use Rattle.ver_patch_laws.proofs.FromLemmas.{name_is}
use Rattle.ver_patch_laws.proofs.IdentifierLemmas.{IsOwnName, identifier_name}
use Rattle.ver_patch_laws.proofs.SetLemmas.{in_right}
use Rattle.ver_syntax.specs.Rows.{rows_of}
use Rattle.ver_text.specs.Kinds.{digits_kind, word_kind}
use Rattle.ver_text.specs.Names.{is_identifier, is_word, name_of}
use Rattle.ver_text.specs.declared.kind.Kind.TheVariants.{Identifier}
use Rattle.ver_patch_text_laws.specs.NewWords.{identifier_bytes, net_words, select_words, word}
use Rattle.ver_patch_text_laws.specs.Texts.{IsNetText}
use Rattle.ver_patch_text_laws.specs.Words.{Word}
use Rattle.ver_patch_text_laws.proofs.TextLemmas.{net_named}

-- ---- a text is that of one net

few_written : (k : ℕ) → k ≤ 2 ^ 20 → value_of (decimal k) ≡ k
few_written k few = (decimal_writes k (omega (arith, few))).value

bits_once : (a b : Option ℕ) → IfSome a (λ k. k ≤ 2 ^ 20) → IfSome b (λ k. k ≤ 2 ^ 20) → select_words a ≡ select_words b → a ≡ b
bits_once None None f g e = refl
bits_once None (Some k) f g e = absurd (cc)
bits_once (Some k) None f g e = absurd (cc)
bits_once (Some j) (Some k) f g e =
    let words : word (digits_kind (decimal j)) (decimal j) ≡ word (digits_kind (decimal k)) (decimal k) = cc in
    ap Some (sym (few_written j f) ∙ ap (λ (w : Word). value_of w.bytes) words ∙ few_written k g)

net_once : (text : List ℕ) (t u : IsNetText text) → name_of_net t.net ≡ name_of_net u.net
net_once text t u =
    let words : net_words t.net ≡ net_words u.net = sym (net_named text t) ∙ net_named text u in
    let first : word Identifier (identifier_bytes t.net.escaped t.net.base) ≡ word Identifier (identifier_bytes u.net.escaped u.net.base) = cc in
    let rest : select_words t.net.bit ≡ select_words u.net.bit = cc in
    let base : t.net.base ≡ u.net.base = sym (name_is t.net t.writable.plain) ∙ ap (λ (w : Word). name_of w.bytes) first ∙ name_is u.net u.writable.plain in
    λ i. record { base = base i; bit = bits_once t.net.bit u.net.bit t.few u.few rest i }

pub written_once : (text : List ℕ) (a b : NetName) → Writes text a → Writes text b → a ≡ b
written_once text a b t u = sym t.is ∙ net_once text t.net u.net ∙ u.is

-- ---- pins have names

word_some : (name : List ℕ) → is_word name ≡ true → 0 < length name
word_some [] e = absurd (cc)
word_some (b ∷ bs) e = omega arith

own_some : (bytes : List ℕ) → IsOwnName bytes → 0 < length (name_of bytes)
own_some bytes (IsOwnName.plain off simple) =
    let name : name_of bytes ≡ bytes = rw off refl in
    subst (λ (n : List ℕ). 0 < length n) (sym name) (word_some bytes (and_parts (is_word bytes) (is_identifier (word_kind bytes)) simple).0)
own_some bytes (IsOwnName.escaped name is some printed) = subst (λ (bs : List ℕ). 0 < length (name_of bs)) (sym is) some

pub pin_some : (text : List ℕ) (netlist : Netlist) (i j : ℕ) (instance : Instance) (pin : Pin) → Denotes text netlist → slice_get netlist.instances i ≡ Some instance
    → slice_get instance.pins j ≡ Some pin → 0 < length pin.name
pin_some text netlist i j instance pin d =
    subst (λ (n : Netlist). slice_get n.instances i ≡ Some instance → slice_get instance.pins j ≡ Some pin → 0 < length pin.name) (sym d.is)
    (λ e f.
    let found = pin_found text i j instance pin e f in
    let head = found.section.head in
    let here : In head (rows_of text) = subst (In head) (sym found.rows.is) (in_right found.rows.before _ head (inl refl)) in
    let name = identifier_name text head here (in_pins head found.rows.named).0 in
    subst (λ (p : Pin). 0 < length p.name) (sym found.is) (own_some (bytes_at text head) name))
