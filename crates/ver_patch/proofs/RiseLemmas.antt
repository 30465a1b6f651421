-- Edits of a netlist's text stand one after another.
use Rattle.std.proofs.Common.{◌≡◌, ℕ, suc, ◌<◌, ◌≤◌, List, [], ◌∷◌, ◌++◌, map, length, get_or, take, drop, sym, ap, ◌∙◌, subst, arith}
use Rattle.std.specs.List.{All, AllPairs}
use Rattle.std.proofs.lemmas.List.{append_assoc, map-append, take-append-drop}
use Rattle.std.proofs.lemmas.List.Elements.{All-head, All-tail}
use Rattle.std.proofs.lemmas.List.Sorted.{All-permutation}
use Rattle.std.proofs.Math.Seq.{drop-cons}
use Rattle.vg_patch.specs.Edits.{Edit, Rise, end_of}
use Rattle.vg_scan.specs.declared.lines.Span.{Span}
use Rattle.ver_module.specs.Netlists.{IsSound, Netlist}
use Rattle.ver_net.specs.Laws.{IsBefore}
use Rattle.ver_net.specs.declared.pin_ref.PinRef.{PinRef}
use Rattle.ver_patch.specs.NewCells.{NewCell}
use Rattle.ver_patch.specs.Rewires.{Rewire}
use Rattle.ver_patch.specs.Laws.{HeadsEndFirst, SpansRise, SpansStand, StandsBetween}
use Rattle.ver_file.specs.Modules.{Denotes}
use Rattle.ver_patch.specs.Orders.{InOrder, rewire_at, rewires_at}
use Rattle.ver_patch.specs.Patches.{edits_of, inserted, rewired}
use Rattle.ver_patch.specs.Pins.{AreRewirable, IsOnOneNet, span_at}
use Rattle.ver_patch.specs.Texts.{cell_texts, wire_texts}
use Rattle.ver_patch.proofs.OrderLemmas.{pins_rise}

-- ---- edits

-- edits up to a place end there
pub end_within : (edits : List Edit) (at end : ℕ) → Rise at end edits → end_of edits ≤ end
end_within [] at end h = omega arith
end_within (e ∷ []) at end h = h.2
end_within (e ∷ f ∷ edits) at end h = end_within (f ∷ edits) e.to end h.2

pub rise_push : (edits : List Edit) (e : Edit) (at mid end : ℕ) → Rise at mid edits → mid ≤ e.from → e.from ≤ e.to → e.to ≤ end → Rise at end (edits ++ e ∷ [])
rise_push [] e at mid end h low own high = (omega (arith, h, low), own, high)
rise_push (f ∷ edits) e at mid end h low own high = (h.0, h.1, rise_push edits e f.to mid end h.2 low own high)

-- an edit stands behind those before it
record IsNext (before : List Edit) (e : Edit) : Type 0 where
  behind : end_of before ≤ e.from
  own : e.from ≤ e.to

next_edit : (before : List Edit) (e : Edit) (later : List Edit) (at end : ℕ) → Rise at end (before ++ e ∷ later) → IsNext before e
next_edit [] e later at end h = record { behind = omega arith; own = h.1 }
next_edit (f ∷ []) e later at end h = record { behind = h.2.0; own = h.2.1 }
next_edit (f ∷ g ∷ before) e later at end h = let n = next_edit (g ∷ before) e later f.to end h.2 in record { behind = n.behind; own = n.own }

-- ---- rewires

-- the edits of the rewires of these numbers
abbrev pub made : Netlist → List Rewire → List ℕ → List Edit
made netlist rewires numbers = map (rewired netlist) (rewires_at rewires numbers)

made_append : (netlist : Netlist) (rewires : List Rewire) (xs ys : List ℕ) → made netlist rewires (xs ++ ys) ≡ made netlist rewires xs ++ made netlist rewires ys
made_append netlist rewires xs ys =
    ap (map (rewired netlist)) (map-append (rewire_at rewires) xs ys) ∙ map-append (rewired netlist) (rewires_at rewires xs) (rewires_at rewires ys)

order_at : (order : List ℕ) (k : ℕ) → k < length order → order ≡ take k order ++ get_or order k 0 ∷ drop (suc k) order
order_at order k low = sym (take-append-drop k order) ∙ ap (λ rest. take k order ++ rest) (drop-cons order k 0 low)

-- the edit of the next rewire stands behind those of the rewires before it
next_rewire : (netlist : Netlist) (rewires : List Rewire) (order : List ℕ) (old : List Edit) (k end : ℕ) → k < length order
    → Rise 0 end (old ++ made netlist rewires order) → IsNext (old ++ made netlist rewires (take k order)) (rewired netlist (rewire_at rewires (get_or order k 0)))
next_rewire netlist rewires order old k end low h =
    let e = rewired netlist (rewire_at rewires (get_or order k 0)) in
    let before = made netlist rewires (take k order) in
    let later = made netlist rewires (drop (suc k) order) in
    let parts : old ++ made netlist rewires order ≡ (old ++ before) ++ e ∷ later
    = ap (λ es. old ++ es) (ap (made netlist rewires) (order_at order k low) ∙ made_append netlist rewires (take k order) (get_or order k 0 ∷ drop (suc k) order))
    ∙ sym (append_assoc old before (e ∷ later)) in
    next_edit (old ++ before) e later 0 end (subst (Rise 0 end) parts h)

pub next_span : (netlist : Netlist) (rewires : List Rewire) (order : List ℕ) (old now : List Edit) (k end : ℕ) (at : PinRef) (span : Span) → k < length order
    → Rise 0 end (old ++ made netlist rewires order) → now ≡ old ++ made netlist rewires (take k order) → at ≡ (rewire_at rewires (get_or order k 0)).at
    → span ≡ span_at netlist at → (end_of now ≤ span.from) × (span.from ≤ span.to)
next_span netlist rewires order old now k end at span low h now_is at_is span_is =
    let next = next_rewire netlist rewires order old k end low h in
    let same : span ≡ span_at netlist (rewire_at rewires (get_or order k 0)).at = span_is ∙ ap (span_at netlist) at_is in
    let behind = next.behind in
    let own = next.own in
    (omega (arith, ap end_of now_is, ap (λ (s : Span). s.from) same, behind), omega (arith, ap (λ (s : Span). s.from) same, ap (λ (s : Span). s.to) same, own))

-- ---- all edits

head_pairs : (r : Rewire) (rest : List Rewire) (R : Rewire → Rewire → Type 0) → AllPairs R (r ∷ rest) → All (R r) rest
head_pairs r rest R h k d low = h 0 (suc k) d (omega arith) (omega (arith, low))

tail_pairs : (r : Rewire) (rest : List Rewire) (R : Rewire → Rewire → Type 0) → AllPairs R (r ∷ rest) → AllPairs R rest
tail_pairs r rest R h i j d less low = h (suc i) (suc j) d (omega (arith, less)) (omega (arith, low))

-- the edits of rewires in the order of the text
rewires_rise : (netlist : Netlist) (ordered : List Rewire) (from : ℕ)
    → ((at : PinRef) → IsOnOneNet netlist at → StandsBetween netlist.head_end netlist.end_at (span_at netlist at))
    → ((a b : PinRef) → IsOnOneNet netlist a → IsOnOneNet netlist b → IsBefore a b → (span_at netlist a).to ≤ (span_at netlist b).from)
    → All (λ r. IsOnOneNet netlist r.at) ordered → AllPairs (λ a b. IsBefore a.at b.at) ordered → All (λ r. from ≤ (span_at netlist r.at).from) ordered
    → from ≤ netlist.end_at → Rise from netlist.end_at (map (rewired netlist) ordered)
rewires_rise netlist [] from stand rise linked before low end = end
rewires_rise netlist (r ∷ rest) from stand rise linked before low end =
    let own = All-head (λ (q : Rewire). IsOnOneNet netlist q.at) r rest linked in
    let others = All-tail (λ (q : Rewire). IsOnOneNet netlist q.at) r rest linked in
    let span = stand r.at own in
    let behind : All (λ (q : Rewire). (span_at netlist r.at).to ≤ (span_at netlist q.at).from) rest
    = λ k d high. rise r.at (get_or rest k d).at own (others k d high) (head_pairs r rest (λ a b. IsBefore a.at b.at) before k d high) in
    let up = span.some in (
      All-head (λ (q : Rewire). from ≤ (span_at netlist q.at).from) r rest low,
      omega (arith, up),
      rewires_rise netlist rest (span_at netlist r.at).to stand rise others (tail_pairs r rest (λ a b. IsBefore a.at b.at) before) behind span.before,
    )

-- the edits of all rewires, in the order of the text
pub all_rewires_rise : (text : List ℕ) (netlist : Netlist) (rewires : List Rewire) (order : List ℕ) → SpansStand → SpansRise → HeadsEndFirst → Denotes text netlist
    → IsSound netlist → AreRewirable netlist rewires → InOrder rewires order → Rise netlist.head_end netlist.end_at (made netlist rewires order)
all_rewires_rise text netlist rewires order stand rise ends denotes sound are placed =
    let ordered = rewires_at rewires order in
    let linked = All-permutation (λ (r : Rewire). IsOnOneNet netlist r.at) rewires ordered placed.same are.linked in
    rewires_rise netlist ordered netlist.head_end (λ at on. stand text netlist at denotes on) (λ a b on_a on_b. rise text netlist a b denotes on_a on_b) linked
    (pins_rise netlist rewires ordered sound are placed.same placed.rising)
    (λ k d low. (stand text netlist (get_or ordered k d).at denotes (linked k d low)).behind)
    (ends text netlist denotes).rise

-- ---- the edits of wires, rewires and cells, one after another

-- those of the wires and the rewires, where the numbers of these are shown as a slice
pub first_edits_rise : (netlist : Netlist) (rewires : List Rewire) (order shown : List ℕ) (wires : List ℕ) (old first : List Edit) → old ≡ []
    → first ≡ old ++ inserted netlist.head_end wires ∷ [] → shown ≡ order → Rise netlist.head_end netlist.end_at (made netlist rewires order)
    → Rise 0 netlist.end_at (first ++ made netlist rewires shown)
first_edits_rise netlist rewires order shown wires old first old_is first_is shown_is h =
    let one : first ≡ inserted netlist.head_end wires ∷ [] = first_is ∙ ap (λ es. es ++ inserted netlist.head_end wires ∷ []) old_is in
    subst (Rise 0 netlist.end_at) (λ i. sym one i ++ made netlist rewires (sym shown_is i)) (omega arith, omega arith, h)

pub all_edits_are : (netlist : Netlist) (rewires : List Rewire) (order shown : List ℕ) (cells : List NewCell) (wires : List (List ℕ))
    → (old first second third : List Edit)
    → old ≡ [] → first ≡ old ++ inserted netlist.head_end (wire_texts wires) ∷ [] → shown ≡ order → second ≡ first ++ made netlist rewires shown
    → third ≡ second ++ inserted netlist.end_at (cell_texts cells) ∷ [] → third ≡ edits_of netlist (rewires_at rewires order) cells wires
all_edits_are netlist rewires order shown cells wires old first second third old_is first_is shown_is second_is third_is =
    let one : first ≡ inserted netlist.head_end (wire_texts wires) ∷ [] = first_is ∙ ap (λ es. es ++ inserted netlist.head_end (wire_texts wires) ∷ []) old_is in
    third_is ∙ ap (λ es. es ++ inserted netlist.end_at (cell_texts cells) ∷ []) (second_is ∙ (λ i. one i ++ made netlist rewires (shown_is i)))
