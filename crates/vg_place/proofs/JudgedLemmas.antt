-- What is said of nets, one after another.
use Rattle.std.proofs.Common.{◌≡◌, ℕ, ◌||◌, Bool, List, [], ◌∷◌, ◌++◌, sym, ap, ◌∙◌, subst}
use Rattle.std.specs.List.{flat_map}
use Rattle.vg_change.specs.Changes.{Changes, nothing}
use Rattle.vg_change.specs.Placed.{PlacedNet}
use Rattle.vg_design.specs.Designs.{Design}
use Rattle.vg_answer.specs.Verdicts.{Verdict, AreSaid, put_in, worse}
use Rattle.vg_answer.proofs.VerdictLemmas.{put_more, said_more}
use Rattle.vg_place.proofs.PutLemmas.{any_both, put_both}
use Rattle.vg_place.specs.Steps.{AreJudged, ArePut, IsBegun, IsOneMore, has_any}
use Rattle.vg_place.specs.declared.judging.Judging.{Judging}

module _ (Says : List ℕ → Verdict → Type 0) (d : Design) where
  -- of no net
  pub nothing_judged : (c : Changes) (all : Judging) → c ≡ nothing d c.prefix → IsBegun c all → AreJudged Says d all.changes.prefix [] all
  nothing_judged c all none is =
      subst (λ (prefix : List ℕ). AreJudged Says d prefix [] all) (sym (ap (λ (made : Changes). made.prefix) is.same)) (record {
        nets = record { verdicts = []; each = tt; kind_is = is.kind; text_is = is.text };
        put = record { put = is.same ∙ none; told = is.changed };
      })

  -- of one net more
  module _ (prefix : List ℕ) (names : List (List ℕ)) (old new : Judging) (name : List ℕ) (v : Verdict) (are : AreJudged Says d prefix names old) (says : Says name v)
      (more : IsOneMore old v new) where
    abbrev more_said : AreSaid Says (names ++ name ∷ []) (worse old.kind v.kind) (old.text.items ++ v.text)
    more_said = said_more Says names old.kind old.text.items are.nets name v says

    pub judged_more : AreJudged Says d prefix (names ++ name ∷ []) new
    judged_more = record {
      nets = record { verdicts = more_said.verdicts; each = more_said.each; kind_is = more.kind ∙ more_said.kind_is; text_is = more.text ∙ more_said.text_is };
      put =
          let puts : flat_map put_in more_said.verdicts ≡ flat_map put_in are.nets.verdicts ++ v.put
          = put_more Says names old.kind old.text.items are.nets name v says in
          subst (λ (nets : List PlacedNet). ArePut (nothing d prefix) nets new.changes new.changed) (sym puts) (record {
            put = put_both (nothing d prefix) old.changes new.changes (flat_map put_in are.nets.verdicts) v.put are.put.put more.put;
            told =
                more.changed ∙ ap (λ (b : Bool). b || has_any v.put) are.put.told ∙ sym (any_both (flat_map put_in are.nets.verdicts) v.put);
          });
    }
