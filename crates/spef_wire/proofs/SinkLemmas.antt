-- Sinks with their wire delays, one after another.
use Rattle.std.proofs.Common.{◌≡◌, ℕ, zero, suc, ◌<◌, ◌≤◌, List, [], ◌∷◌, ◌++◌, length, get_or, refl, sym, ap, ◌∙◌, arith}
use Rattle.std.specs.Prelude.{ℤ, pos}
use Rattle.vg_scan.specs.declared.name.NodeName.{NodeName}
use Rattle.spef_wire.specs.SinkRows.{sink_rows}

-- one sink more
pub rows_more : (owners leaves : List (List ℕ)) (delays : List ℤ) (owner leaf : List ℕ) (delay : ℤ) → length owners ≡ length delays → length leaves ≡ length delays
    → sink_rows (owners ++ owner ∷ []) (leaves ++ leaf ∷ []) (delays ++ delay ∷ []) ≡ sink_rows owners leaves delays ++ (record { owner = owner; leaf = leaf }, delay) ∷ []
unfolding sink_rows
rows_more [] [] [] owner leaf delay e f = refl
rows_more (o ∷ owners) leaves [] owner leaf delay e f = absurd (omega (arith, e))
rows_more [] (l ∷ leaves) [] owner leaf delay e f = absurd (omega (arith, f))
rows_more [] leaves (d ∷ delays) owner leaf delay e f = absurd (omega (arith, e))
rows_more (o ∷ owners) [] (d ∷ delays) owner leaf delay e f = absurd (omega (arith, f))
rows_more (o ∷ owners) (l ∷ leaves) (d ∷ delays) owner leaf delay e f =
    ap (λ (rows : List (NodeName × ℤ)). (record { owner = o; leaf = l }, d) ∷ rows) (rows_more owners leaves delays owner leaf delay (omega (arith, e)) (omega (arith, f)))

-- as many as delays
pub rows_count : (owners leaves : List (List ℕ)) (delays : List ℤ) → length delays ≤ length owners → length delays ≤ length leaves → length (sink_rows owners leaves delays) ≡ length delays
unfolding sink_rows
rows_count [] leaves [] e f = refl
rows_count (o ∷ owners) [] [] e f = refl
rows_count (o ∷ owners) (l ∷ leaves) [] e f = refl
rows_count [] leaves (d ∷ delays) e f = absurd (omega (arith, e))
rows_count (o ∷ owners) [] (d ∷ delays) e f = absurd (omega (arith, f))
rows_count (o ∷ owners) (l ∷ leaves) (d ∷ delays) e f = (let h = rows_count owners leaves delays (omega (arith, e)) (omega (arith, f)) in omega (arith, h))

-- the sink at a place
pub rows_get : (owners leaves : List (List ℕ)) (delays : List ℤ) (at : ℕ) (other : NodeName × ℤ) → length delays ≤ length owners → length delays ≤ length leaves → at < length delays
    → get_or (sink_rows owners leaves delays) at other ≡ (record { owner = get_or owners at []; leaf = get_or leaves at [] }, get_or delays at (pos 0))
unfolding sink_rows
rows_get owners leaves [] at other e f h = absurd (omega (arith, h))
rows_get [] leaves (d ∷ delays) at other e f h = absurd (omega (arith, e))
rows_get (o ∷ owners) [] (d ∷ delays) at other e f h = absurd (omega (arith, f))
rows_get (o ∷ owners) (l ∷ leaves) (d ∷ delays) zero other e f h = refl
rows_get (o ∷ owners) (l ∷ leaves) (d ∷ delays) (suc at) other e f h = rows_get owners leaves delays at other (omega (arith, e)) (omega (arith, f)) (omega (arith, h))

rows_none : (owners leaves : List (List ℕ)) → sink_rows owners leaves [] ≡ []
unfolding sink_rows
rows_none [] leaves = refl
rows_none (o ∷ owners) [] = refl
rows_none (o ∷ owners) (l ∷ leaves) = refl

-- none where there are no delays
pub no_rows : (owners leaves : List (List ℕ)) (delays : List ℤ) → delays ≡ [] → sink_rows owners leaves delays ≡ []
no_rows owners leaves delays e = ap (sink_rows owners leaves) e ∙ rows_none owners leaves

-- the same of the same lists
pub rows_are : (owners leaves os ls : List (List ℕ)) (delays ds : List ℤ) → owners ≡ os → leaves ≡ ls → delays ≡ ds → sink_rows owners leaves delays ≡ sink_rows os ls ds
rows_are owners leaves os ls delays ds e f g = λ i. sink_rows (e i) (f i) (g i)

-- an owner, or an owner and a leaf, without a delay are no sink
pub owner_more : (owners leaves : List (List ℕ)) (delays : List ℤ) (owner : List ℕ) → length delays ≤ length owners → sink_rows (owners ++ owner ∷ []) leaves delays ≡ sink_rows owners leaves delays
unfolding sink_rows
owner_more owners leaves [] owner h = rows_none (owners ++ owner ∷ []) leaves ∙ sym (rows_none owners leaves)
owner_more [] leaves (d ∷ delays) owner h = absurd (omega (arith, h))
owner_more (o ∷ owners) [] (d ∷ delays) owner h = refl
owner_more (o ∷ owners) (l ∷ leaves) (d ∷ delays) owner h = ap (λ (rows : List (NodeName × ℤ)). (record { owner = o; leaf = l }, d) ∷ rows) (owner_more owners leaves delays owner (omega (arith, h)))

pub leaf_more : (owners leaves : List (List ℕ)) (delays : List ℤ) (leaf : List ℕ) → length delays ≤ length leaves → sink_rows owners (leaves ++ leaf ∷ []) delays ≡ sink_rows owners leaves delays
unfolding sink_rows
leaf_more owners leaves [] leaf h = rows_none owners (leaves ++ leaf ∷ []) ∙ sym (rows_none owners leaves)
leaf_more owners [] (d ∷ delays) leaf h = absurd (omega (arith, h))
leaf_more [] (l ∷ leaves) (d ∷ delays) leaf h = refl
leaf_more (o ∷ owners) (l ∷ leaves) (d ∷ delays) leaf h = ap (λ (rows : List (NodeName × ℤ)). (record { owner = o; leaf = l }, d) ∷ rows) (leaf_more owners leaves delays leaf (omega (arith, h)))
