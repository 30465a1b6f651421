-- The words of the text of a changed netlist.
use Rattle.std.proofs.lemmas.List.{map-append}
use Rattle.std.proofs.Common.{◌≡◌, ℕ, suc, ◌≤◌, true, List, [], ◌∷◌, ◌++◌, map, Some, sym, ap, ◌∙◌, subst, arith}
use Rattle.std.specs.Prelude.{slice_get}
use Rattle.std.specs.List.{All, AllPairs, flat_map}
use Rattle.std.proofs.lemmas.List.Elements.{All-head, All-tail}
use Rattle.std.proofs.lemmas.List.Sorted.{All-permutation}
use Rattle.vg_patch.specs.Edits.{Edit, patched}
use Rattle.ver_text.specs.declared.token.Token.{Token}
use Rattle.ver_text.specs.Names.{is_simple}
use Rattle.ver_text.specs.Tokens.{tokens_of}
use Rattle.ver_text.proofs.OrderLemmas.{stand_in_order}
use Rattle.ver_syntax.proofs.PlaceLemmas.{items_stand, start}
use Rattle.ver_module.specs.declared.link.Link.TheVariants.{One}
use Rattle.ver_module.specs.Netlists.{Netlist, Pin}
use Rattle.ver_file.specs.Modules.{Denotes}
use Rattle.ver_file.specs.Netlists.{pin_of}
use Rattle.ver_net.specs.Laws.{IsBefore}
use Rattle.ver_net.specs.declared.pin_ref.PinRef.{PinRef}
use Rattle.ver_patch.specs.Patches.{inserted, rewired}
use Rattle.ver_patch.specs.Pins.{IsOnOneNet, span_at}
use Rattle.ver_patch.specs.Texts.{cell_texts, wire_texts}
use Rattle.ver_patch.specs.NewCells.{NewCell}
use Rattle.ver_patch.specs.Rewires.{Rewire}
use Rattle.ver_patch.proofs.LawLemmas.{heads_end_first, span_is, spans_rise, spans_stand}
use Rattle.ver_patch_text_laws.specs.Laws.{ModulesStay, WordsArePatched}
use Rattle.ver_patch_text_laws.specs.NewWords.{cell_words, inserted_words, rewired_words, wire_words}
use Rattle.ver_patch_text_laws.specs.Texts.{IsNetText, IsNewCell}
use Rattle.ver_patch_text_laws.specs.Words.{Word, WordEdit, word_in, words_of, words_with}
use Rattle.ver_patch_text_laws.proofs.ChainLemmas.{Chained, StandsAt, stands_behind}
use Rattle.ver_patch_text_laws.proofs.FrameLemmas.{end_tokens, head_tokens}
use Rattle.ver_patch_text_laws.proofs.PatchLemmas.{chain_end, chain_head, chain_more, head_words, stands_behind_mark}
use Rattle.ver_patch_text_laws.proofs.GrammarLemmas.{Goes, at_item, goes_end, goes_more, kinds_are, no_bad, over_kept, wires_run, word_kinds}
use Rattle.ver_patch_text_laws.proofs.PinLemmas.{shaped_pin}
use Rattle.ver_patch_text_laws.proofs.RunLemmas.{ended_modules, is_over}
use Rattle.grammar_laws.specs.Machines.{run}
use Rattle.ver_syntax.specs.Moves.{State, next}
use Rattle.ver_text.specs.Kinds.{kind_in, kinds_of}
use Rattle.ver_patch_text_laws.proofs.PinTokenLemmas.{IsPinPlace, pin_place}
use Rattle.ver_patch_text_laws.proofs.SectionLemmas.{pin_found}
use Rattle.ver_patch_text_laws.proofs.TextLemmas.{Each, cells_are_put, net_is_new, wires_read}

-- ---- lists

pub each_of : {X : Type 0} (P : X → Type 0) (xs : List X) → All P xs → Each P xs
each_of P [] h = tt
each_of P (x ∷ xs) h = (All-head P x xs h, each_of P xs (All-tail P x xs h))

pub head_pairs : {X : Type 0} (R : X → X → Type 0) (x : X) (xs : List X) → AllPairs R (x ∷ xs) → Each (R x) xs
head_pairs R x xs h = each_of (R x) xs (λ k d low. h 0 (suc k) d (omega arith) (omega (arith, low)))

pub tail_pairs : {X : Type 0} (R : X → X → Type 0) (x : X) (xs : List X) → AllPairs R (x ∷ xs) → AllPairs R xs
tail_pairs R x xs h i j d less low = h (suc i) (suc j) d (omega (arith, less)) (omega (arith, low))

-- ---- pins

-- the tokens of a pin that is linked to one net
pub pin_stands : (text : List ℕ) (netlist : Netlist) → Denotes text netlist → (at : PinRef) → IsOnOneNet netlist at → IsPinPlace text (span_at netlist at)
pin_stands text netlist d at (net, l) =
    let f = pin_found text at.instance at.pin l.instance l.pin (ap (λ (n : Netlist). slice_get n.instances at.instance) (sym d.is) ∙ l.is_instance) l.is_pin in
    let link : (pin_of text f.section).link ≡ One net = ap (λ (p : Pin). p.link) (sym f.is) ∙ l.has_link in
    let span : (pin_of text f.section).span ≡ span_at netlist at
    = ap (λ (p : Pin). p.span) (sym f.is) ∙ sym (span_is netlist at l.instance l.pin l.is_instance l.is_pin) in
    subst (IsPinPlace text) span (pin_place text (pin_of text f.section).span (shaped_pin text d.grammar f.section net f.rows link))

-- ---- the words

pub spans_behind : (text : List ℕ) (netlist : Netlist) → Denotes text netlist → (r : Rewire) → IsOnOneNet netlist r.at → (rs : List Rewire)
    → Each (λ q. IsBefore r.at q.at) rs → Each (λ q. IsOnOneNet netlist q.at) rs → Each (λ q. (span_at netlist r.at).to ≤ (span_at netlist q.at).from) rs
spans_behind text netlist d r own [] b l = tt
spans_behind text netlist d r own (q ∷ rs) b l =
    (spans_rise stand_in_order items_stand text netlist r.at q.at d own l.0 b.0, spans_behind text netlist d r own rs b.1 l.1)

abbrev pub end_edits : Netlist → List NewCell → List Edit
end_edits netlist cells = inserted netlist.end_at (cell_texts cells) ∷ []

abbrev pub end_changes : Netlist → List NewCell → List WordEdit
end_changes netlist cells = inserted_words netlist.end_at (flat_map cell_words cells) ∷ []

module _ (text : List ℕ) (netlist : Netlist) (d : Denotes text netlist) (cells : List NewCell) (made : Each IsNewCell cells) where
  -- new names one after another, and the new instances
  pub chained : (rewires : List Rewire) (at : ℕ) (done ts : List Token) → StandsAt text at done ts → Each (λ r. IsOnOneNet netlist r.at) rewires
      → Each (λ r. IsNetText r.net) rewires → AllPairs (λ a b. IsBefore a.at b.at) rewires → Each (λ r. at ≤ (span_at netlist r.at).from) rewires
      → at ≤ netlist.end_at
      → Chained text at ts (map (rewired netlist) rewires ++ end_edits netlist cells) (map (rewired_words netlist) rewires ++ end_changes netlist cells)
  chained [] at done ts here linked named before low up =
      let e = end_tokens text d.grammar in
      let place : netlist.end_at ≡ e.last.from = ap (λ (n : Netlist). n.end_at) d.is ∙ e.place in
      subst (λ n. Chained text at ts (inserted n (cell_texts cells) ∷ []) (inserted_words n (flat_map cell_words cells) ∷ [])) (sym place)
      (chain_end text at done ts e.front e.mark e.last (cell_texts cells) (flat_map cell_words cells) here e.ends (omega (arith, place, up)) (cells_are_put cells made))
  chained (r ∷ rest) at done ts here linked named before low up =
      let span = span_at netlist r.at in
      let p = pin_stands text netlist d r.at linked.0 in
      let stands = spans_stand stand_in_order items_stand text netlist r.at d linked.0 in
      let more =
      chained rest span.to (p.stands.before ++ p.stands.bracket ∷ (p.stands.name ∷ p.stands.more)) (p.stands.close ∷ p.stands.after)
      (stands_behind text span.from span.to p.stands) linked.1 named.1 (tail_pairs (λ a b. IsBefore a.at b.at) r rest before)
      (spans_behind text netlist d r linked.0 rest (head_pairs (λ a b. IsBefore a.at b.at) r rest before) linked.1) stands.before in
      chain_more text at done ts span.from span.to r.net (words_of r.net) (map (rewired netlist) rest ++ end_edits netlist cells)
      (map (rewired_words netlist) rest ++ end_changes netlist cells) here p.stands low.0 (net_is_new r.net named.0) more

pub all_low : (text : List ℕ) (netlist : Netlist) → Denotes text netlist → (rs : List Rewire) → Each (λ q. IsOnOneNet netlist q.at) rs
    → Each (λ q. netlist.head_end ≤ (span_at netlist q.at).from) rs
all_low text netlist d [] l = tt
all_low text netlist d (q ∷ rs) l = ((spans_stand stand_in_order items_stand text netlist q.at d l.0).behind, all_low text netlist d rs l.1)

pub words_are_patched : WordsArePatched
words_are_patched text netlist rewires cells wires new c =
    let d = c.denotes in
    let p = c.patched in
    let h = head_tokens text d.grammar in
    let place : netlist.head_end ≡ h.mark.to = ap (λ (n : Netlist). n.head_end) d.is ∙ h.place in
    let linked = each_of (λ (r : Rewire). IsOnOneNet netlist r.at) p.ordered
    (All-permutation (λ (r : Rewire). IsOnOneNet netlist r.at) rewires p.ordered p.same c.rewirable.linked) in
    let named = each_of (λ (r : Rewire). IsNetText r.net) p.ordered
    (All-permutation (λ (r : Rewire). IsNetText r.net) rewires p.ordered p.same c.written.linked) in
    let made = each_of IsNewCell cells c.written.made in
    let declared = each_of (λ name. is_simple name ≡ true) wires c.written.declared in
    let rest =
    chained text netlist d cells made p.ordered h.mark.to (h.front ++ h.mark ∷ []) h.back (stands_behind_mark text h.front h.mark h.back h.is h.marks)
    linked named p.rising (subst (λ n. Each (λ q. n ≤ (span_at netlist q.at).from) p.ordered) place (all_low text netlist d p.ordered linked))
    (subst (λ n. n ≤ netlist.end_at) place (heads_end_first stand_in_order items_stand text netlist d).rise) in
    ap words_of p.is
    ∙ subst (λ n. words_of (patched text (inserted n (wire_texts wires) ∷ (map (rewired netlist) p.ordered ++ end_edits netlist cells)))
    ≡ words_with text (inserted_words n (flat_map wire_words wires) ∷ (map (rewired_words netlist) p.ordered ++ end_changes netlist cells)) (tokens_of text))
    (sym place)
    (chain_head text h.front h.mark h.back (wire_texts wires) (flat_map wire_words wires) (map (rewired netlist) p.ordered ++ end_edits netlist cells)
    (map (rewired_words netlist) p.ordered ++ end_changes netlist cells) h.is h.marks (wires_read wires declared) rest)

-- ---- the grammar

module _ (text : List ℕ) (netlist : Netlist) (d : Denotes text netlist) (cells : List NewCell) (made : Each IsNewCell cells) where
  goes : (rewires : List Rewire) (at : ℕ) (done ts : List Token) (s : State) → StandsAt text at done ts → Each (λ r. IsOnOneNet netlist r.at) rewires
      → Each (λ r. IsNetText r.net) rewires → AllPairs (λ a b. IsBefore a.at b.at) rewires → Each (λ r. at ≤ (span_at netlist r.at).from) rewires
      → at ≤ netlist.end_at → run next (Some start) (map (kind_in text) done) ≡ Some s
      → Goes text ts (map (rewired_words netlist) rewires ++ end_changes netlist cells) s
  goes [] at done ts s here linked named before low up there =
      let e = end_tokens text d.grammar in
      let place : netlist.end_at ≡ e.last.from = ap (λ (n : Netlist). n.end_at) d.is ∙ e.place in
      subst (λ n. Goes text ts (inserted_words n (flat_map cell_words cells) ∷ []) s) (sym place)
      (goes_end text at done ts e.front e.mark e.last cells s here e.ends (omega (arith, place, up)) made e.kind e.comes there)
  goes (r ∷ rest) at done ts s here linked named before low up there =
      let span = span_at netlist r.at in
      let p = pin_stands text netlist d r.at linked.0 in
      let stands = spans_stand stand_in_order items_stand text netlist r.at d linked.0 in
      goes_more text at done ts span.from span.to r.net (map (rewired_words netlist) rest ++ end_changes netlist cells) s here
      p.stands low.0 named.0 p.closing p.comes p.runs there
      (λ t e. goes rest span.to (p.stands.before ++ p.stands.bracket ∷ (p.stands.name ∷ p.stands.more)) (p.stands.close ∷ p.stands.after) t
      (stands_behind text span.from span.to p.stands) linked.1 named.1 (tail_pairs (λ a b. IsBefore a.at b.at) r rest before)
      (spans_behind text netlist d r linked.0 rest (head_pairs (λ a b. IsBefore a.at b.at) r rest before) linked.1) stands.before e)

pub modules_stay : ModulesStay
modules_stay text netlist rewires cells wires new c =
    let d = c.denotes in
    let p = c.patched in
    let h = head_tokens text d.grammar in
    let place : netlist.head_end ≡ h.mark.to = ap (λ (n : Netlist). n.head_end) d.is ∙ h.place in
    let linked = each_of (λ (r : Rewire). IsOnOneNet netlist r.at) p.ordered
    (All-permutation (λ (r : Rewire). IsOnOneNet netlist r.at) rewires p.ordered p.same c.rewirable.linked) in
    let named = each_of (λ (r : Rewire). IsNetText r.net) p.ordered
    (All-permutation (λ (r : Rewire). IsNetText r.net) rewires p.ordered p.same c.written.linked) in
    let made = each_of IsNewCell cells c.written.made in
    let changes = map (rewired_words netlist) p.ordered ++ end_changes netlist cells in
    let g =
    goes text netlist d cells made p.ordered h.mark.to (h.front ++ h.mark ∷ []) h.back at_item (stands_behind_mark text h.front h.mark h.back h.is h.marks)
    linked named p.rising (subst (λ n. Each (λ q. n ≤ (span_at netlist q.at).from) p.ordered) place (all_low text netlist d p.ordered linked))
    (subst (λ n. n ≤ netlist.end_at) place (heads_end_first stand_in_order items_stand text netlist d).rise) h.comes in
    let words : words_of new ≡ map (word_in text) (h.front ++ h.mark ∷ []) ++ (flat_map wire_words wires ++ words_with text changes h.back)
    = words_are_patched text netlist rewires cells wires new c
    ∙ ap (λ n. words_with text (inserted_words n (flat_map wire_words wires) ∷ changes) (tokens_of text)) place
    ∙ head_words text h.front h.mark h.back (flat_map wire_words wires) changes h.is h.marks in
    let over : is_over (run next (Some start) (kinds_of new)) ≡ true
    = ap is_over
    (ap (run next (Some start)) (sym (kinds_are new (tokens_of new)) ∙ ap word_kinds words)
    ∙ over_kept text (h.front ++ h.mark ∷ []) (flat_map wire_words wires ++ words_with text changes h.back) start at_item h.comes
    ∙ ap (run next (Some at_item)) (map-append (λ (w : Word). w.kind) (flat_map wire_words wires) (words_with text changes h.back))
    ∙ wires_run wires (word_kinds (words_with text changes h.back)))
    ∙ g.over in
    (no_bad new (tokens_of new) start over, ended_modules (kinds_of new) over)
