use Rattle.std.proofs.Common.{◌≡◌, ◌<◌, ◌-◌, ◌∙◌, sym, ap, ap₂, length, take, arith, subst, List, ℕ}
use Rattle.name_tables.specs.Texts.{texts_of, start_of, AreEnds}
use Rattle.name_tables.proofs.TextsLemmas.{length-texts_of, texts_front}
use Rattle.name_tables.proofs.texts.Texts.pop.Goals as goal

pub overflow_sub-last : goal.overflow_sub-last
overflow_sub-last c = omega (arith, c.requires, c.len-last.ensures, length-texts_of c.self.inside.bytes.items 0 c.self.inside.ends.items, ap length c.self.view_is)

pub start_of-start-requires : goal.start_of-start-requires
start_of-start-requires c = omega (arith, c.len-last.ensures, ap length c.as_slice.ensures.value)

-- what is left where the ends and the bytes are those before the last text
fronts : (bytes ends new new_ends : List ℕ) (count start : ℕ) → AreEnds 0 ends (length bytes) → count ≡ length ends → 0 < count → start ≡ start_of 0 ends (count - 1) → new ≡ take start bytes → new_ends ≡ take (count - 1) ends
    → AreEnds 0 new_ends (length new) × (texts_of new 0 new_ends ≡ take (count - 1) (texts_of bytes 0 ends))
fronts bytes ends new new_ends count start h e some f g k =
    let front = texts_front bytes ends (count - 1) h (omega (arith, e, some)) in
    let same : new ≡ take (start_of 0 ends (count - 1)) bytes = g ∙ ap (λ m. take m bytes) f in (
      subst (λ es. AreEnds 0 es (length new)) (sym k) (subst (λ (bs : List ℕ). AreEnds 0 (take (count - 1) ends) (length bs)) (sym same) front.0),
      ap₂ (λ bs es. texts_of bs 0 es) same k ∙ front.1,
    )

pub invariant_of-self : goal.invariant_of-self
invariant_of-self c =
    let e : c.len-last.result ≡ length c.self.inside.ends.items = omega (arith, c.len-last.ensures) in
    let some : 0 < c.len-last.result = omega (arith, c.requires, e, length-texts_of c.self.inside.bytes.items 0 c.self.inside.ends.items, ap length c.self.view_is) in
    let start = c.start_of-start.ensures ∙ ap (λ (es : List ℕ). start_of 0 es (c.len-last.result - 1)) c.as_slice.ensures.value in
    (fronts c.self.inside.bytes.items c.self.inside.ends.items c.truncate.new.self.items c.truncate-2.new.self.items c.len-last.result c.start_of-start.result c.self.invariant e some start c.truncate.ensures.items c.truncate-2.ensures.items).0

pub returns : goal.returns
returns c =
    let e : c.len-last.result ≡ length c.self.inside.ends.items = omega (arith, c.len-last.ensures) in
    let all : length (texts_of c.self.inside.bytes.items 0 c.self.inside.ends.items) ≡ length c.args.self.now = ap length c.self.view_is in
    let some : 0 < c.len-last.result = omega (arith, c.requires, e, length-texts_of c.self.inside.bytes.items 0 c.self.inside.ends.items, all) in
    let start = c.start_of-start.ensures ∙ ap (λ (es : List ℕ). start_of 0 es (c.len-last.result - 1)) c.as_slice.ensures.value in
    let count : c.len-last.result - 1 ≡ length c.args.self.now - 1 = omega (arith, e, length-texts_of c.self.inside.bytes.items 0 c.self.inside.ends.items, all) in
    (fronts c.self.inside.bytes.items c.self.inside.ends.items c.truncate.new.self.items c.truncate-2.new.self.items c.len-last.result c.start_of-start.result c.self.invariant e some start c.truncate.ensures.items c.truncate-2.ensures.items).1
    ∙ ap₂ (λ n (ts : List (List ℕ)). take n ts) count c.self.view_is
