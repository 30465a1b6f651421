-- What is read of the items of a text, one item more.
use Rattle.std.proofs.Common.{◌≡◌, ℕ, List, [], ◌∷◌, ◌++◌, find, flat_map, option_map, Option, Some, None, refl, sym, ap, ◌∙◌}
use Rattle.std.specs.Option.{option_or}
use Rattle.std.proofs.lemmas.List.{append-nil}
use Rattle.std.proofs.lemmas.List.Folds.{find-append}
use Rattle.ver_text.specs.declared.kind.Kind.TheVariants.{EndModule}
use Rattle.ver_syntax.specs.declared.fault.VerKind.TheVariants.{Grammar, InstanceTwice, NameClash}
use Rattle.ver_syntax.specs.declared.row.Row.{Row}
use Rattle.ver_syntax.specs.Grammar.{is}
use Rattle.ver_items.specs.Sections.{Section}
use Rattle.ver_items.specs.SectionSteps.{rows_in, section_in}
use Rattle.ver_file.specs.Bodies.{end_in}
use Rattle.ver_file.specs.declared.first.Firsts.{Firsts}
use Rattle.ver_file.specs.FirstFlaws.{AreFirsts, IsFlawless}
use Rattle.ver_file.specs.Firsts.{first_of}
use Rattle.ver_file.specs.Flaws.{clashes, flaws_at, flaws_of, grammar_flaws, instance_flaws}
use Rattle.ver_file.proofs.NetLemmas.{no_left, no_mapped, no_right, not_first}
use Rattle.ver_items.proofs.RowLemmas.{next_rows}
use Rattle.ver_file.proofs.SectionInLemmas.{item_more}

-- where nothing is wrong with the items up to one, nothing is wrong with those before it
pub flawless_before : (first found : Firsts) (clash twice grammar : List ℕ) → found.clash ≡ first_of first.clash clash → found.twice ≡ first_of first.twice twice
    → found.grammar ≡ first_of first.grammar grammar → IsFlawless found → IsFlawless first
flawless_before first found clash twice grammar c t g h = record {
  clash = (not_first first.clash clash (sym c ∙ h.clash)).0;
  twice = (not_first first.twice twice (sym t ∙ h.twice)).0;
  grammar = (not_first first.grammar grammar (sym g ∙ h.grammar)).0;
}

-- where a text has no flaw, nothing is wrong
pub flawless : (text : List ℕ) (firsts : Firsts) → AreFirsts text firsts → flaws_of text ≡ [] → IsFlawless firsts
flawless text firsts h e =
    let clash = flaws_at NameClash (clashes text) in
    let twice = flaws_at InstanceTwice (instance_flaws text) in
    let grammar = flaws_at Grammar (grammar_flaws text) in
    let others = no_right clash (twice ++ grammar) e in
    record {
      clash = h.clash ∙ ap (first_of None) (no_mapped (λ place. record { place = place; kind = NameClash }) (clashes text) (no_left clash (twice ++ grammar) e));
      twice = h.twice ∙ ap (first_of None) (no_mapped (λ place. record { place = place; kind = InstanceTwice }) (instance_flaws text) (no_left twice grammar others));
      grammar = h.grammar ∙ ap (first_of None) (no_mapped (λ place. record { place = place; kind = Grammar }) (grammar_flaws text) (no_right twice grammar others));
    }

-- what is built of one item more
pub built_more : {X : Type 0} (f : Section → List X) (done new all : List X) (left after : List Section) (rows its : List Row) (item : Section)
    → all ≡ done ++ flat_map f left → left ≡ section_in rows ++ after → its ≡ rows → section_in its ≡ item ∷ [] → new ≡ done ++ f item
    → all ≡ new ++ flat_map f after
built_more f done new all left after rows its item e g same one put =
    let its_part : flat_map f (section_in rows) ≡ f item = ap (λ rs. flat_map f (section_in rs)) (sym same) ∙ ap (flat_map f) one ∙ append-nil (f item) in
    item_more f done all left after rows e g
    ∙ ap (λ xs. (done ++ xs) ++ flat_map f after) its_part
    ∙ ap (λ xs. xs ++ flat_map f after) (sym put)

-- ---- where the module ends

or_or : (a b c : Option ℕ) → option_or (option_or a b) c ≡ option_or a (option_or b c)
or_or None b c = refl
or_or (Some a) b c = refl

or_none : (a : Option ℕ) → option_or a None ≡ a
or_none None = refl
or_none (Some a) = refl

map_or : (a b : Option Row) → option_map (λ r. r.from) (option_or a b) ≡ option_or (option_map (λ r. r.from) a) (option_map (λ r. r.from) b)
map_or None b = refl
map_or (Some a) b = refl

end_more : (xs ys : List Row) → end_in (xs ++ ys) ≡ option_or (end_in xs) (end_in ys)
end_more xs ys =
    ap (option_map (λ r. r.from)) (find-append (λ r. is EndModule r.kind) xs ys)
    ∙ map_or (find (λ r. is EndModule r.kind) xs) (find (λ r. is EndModule r.kind) ys)

pub next_end : (first found all : Option ℕ) (left after : List Section) (rows its : List Row) → left ≡ section_in rows ++ after → its ≡ rows
    → found ≡ option_or first (end_in its) → all ≡ option_or first (end_in (rows_in left)) → all ≡ option_or found (end_in (rows_in after))
next_end first found all left after rows its g same e h =
    h ∙ ap (λ rs. option_or first (end_in rs)) (next_rows rows left after g)
    ∙ ap (option_or first) (end_more rows (rows_in after))
    ∙ sym (or_or first (end_in rows) (end_in (rows_in after)))
    ∙ ap (λ o. option_or o (end_in (rows_in after))) (ap (λ rs. option_or first (end_in rs)) (sym same) ∙ sym e)

pub last_end : (first all : Option ℕ) (left : List Section) → left ≡ [] → all ≡ option_or first (end_in (rows_in left)) → first ≡ all
last_end first all left none h = sym (h ∙ ap (λ ss. option_or first (end_in (rows_in ss))) none ∙ or_none first)
