-- Lines that stay, read after others.
use Rattle.std.proofs.Common.{◌≡◌, ℕ, ◌+◌, Bool, true, false, ◌&&◌, cond, List, [], ◌∷◌, ◌++◌, length, map, refl, sym, ap, ◌∙◌, arith, subst, append_assoc, length-append, Option, Some, None, is_some}
use Rattle.std.specs.Prelude.{codes, option_map, unwrap_or}
use Rattle.std.specs.Str.{bytes_eq}
use Rattle.std.proofs.lemmas.List.{append-nil, map-append}
use Rattle.vg_scan.specs.Lines.{Line}
use Rattle.spef_file.specs.Words.{first_word}
use Rattle.spef_file.specs.Nets.{NetHead, is_end, is_head, end_at, is_taken}
use Rattle.spef_file.specs.Regions.{place_after, is_net_head}
use Rattle.spef_file.specs.Statements.{listed, row_in, rows_of, name_in, net_in, nets_of}
use Rattle.spef_file.specs.Faults.{is_some_and, fault_of}
use Rattle.spef_file.proofs.MoreLemmas.{place_more, rows_more, nets_more}
use Rattle.name_tables.specs.Distinct.{AreNew}
use Rattle.spef_patch_laws.specs.Runs.{IsAlike, names_of, shifted, Add}
use Rattle.spef_patch_laws.specs.RunLaws.{AreKept, LinesAreReadElsewhere}
use Rattle.spef_patch_laws.proofs.StepLemmas.{header_stays}
use Rattle.spef_patch_laws.proofs.FaultLemmas.{kept_fault}

-- the end of a net, among lines that go on alike
pub ends_alike : (lines later other : List Line) → end_at other ≡ end_at later → end_at (lines ++ other) ≡ end_at (lines ++ later)
ends_alike [] later other e = e
ends_alike (line ∷ lines) later other e =
    ap (λ o. cond (is_end line) (Some 0) (cond (is_head line) None (option_map (λ n. n + 1) o))) (ends_alike lines later other e)

-- one line more
pub alike_more : (old new : List Line) (line : Line) → IsAlike old new → IsAlike (old ++ line ∷ []) (new ++ line ∷ [])
alike_more old new line a =
    let o = header_stays old line a.says.old_over in
    let n = header_stays new line a.says.over in
    let row : row_in new line ≡ row_in old line = rw (a.says.over, a.says.old_over, a.place, a.says.chars) refl in
    record {
      says = record {
        old_over = o.over;
        over = n.over;
        chars = n.chars ∙ a.says.chars ∙ sym o.chars;
        c_places = n.c_places ∙ a.says.c_places ∙ sym o.c_places;
        r_places = n.r_places ∙ a.says.r_places ∙ sym o.r_places;
        rows =
            rows_more new line ∙ ap (λ r. rows_of new ++ listed r) row ∙ ap (λ rows. rows ++ listed (row_in old line)) a.says.rows
            ∙ sym (rows_more old line);
      };
      place = place_more new line ∙ ap (λ p. place_after p line) a.place ∙ sym (place_more old line);
    }

-- ---- heads

-- the head on a line, counted from it
abbrev first_heads : Bool → List ℕ → Bool → List NetHead
first_heads t name reduced = listed (cond t (Some (record { name = name; reduced = reduced; line = 1 })) None)

heads_at : (t : Bool) (name : List ℕ) (reduced : Bool) (n : ℕ)
    → listed (cond t (Some (record { name = name; reduced = reduced; line = n + 1 })) None) ≡ map (shifted n) (first_heads t name reduced)
heads_at true name reduced n = (let e : n + 1 ≡ 1 + n = omega arith in λ i. record { name = name; reduced = reduced; line = e i } ∷ [])
heads_at false name reduced n = refl

-- the heads that a line adds
line_adds : (before : List Line) (line : Line) → listed (net_in before line)
    ≡ map (shifted (length before)) (first_heads (is_net_head before line) (unwrap_or (name_in before line) []) (bytes_eq (first_word line) (codes "*R_NET")))
line_adds before line = heads_at (is_net_head before line) (unwrap_or (name_in before line) []) (bytes_eq (first_word line) (codes "*R_NET")) (length before)

pub head_alike : (old new : List Line) (line : Line) → IsAlike old new → is_net_head new line ≡ is_net_head old line
head_alike old new line a = rw (a.says.over, a.says.old_over, a.place) refl

pub name_alike : (old new : List Line) (line : Line) → IsAlike old new → name_in new line ≡ name_in old line
name_alike old new line a = rw (a.says.rows, a.says.chars) refl

-- the first line's heads and the others'
pub shifted_more : (a b : ℕ) (xs : List NetHead) → a ≡ b + 1 → map (shifted a) xs ≡ map (shifted b) (map (shifted 1) xs)
shifted_more a b [] e = refl
shifted_more a b (x ∷ xs) e =
    let l : x.line + a ≡ x.line + 1 + b = omega arith in
    λ j. record x { line = l j } ∷ shifted_more a b xs e j

add_more : (before lines : List Line) (line : Line) (first more : List NetHead) → listed (net_in before line) ≡ map (shifted (length before)) first
    → Add (before ++ line ∷ []) lines more → Add before (line ∷ lines) (first ++ map (shifted 1) more)
add_more before lines line first more e f =
    ap nets_of (sym (append_assoc before (line ∷ []) lines)) ∙ f
    ∙ ap (λ nets. nets ++ map (shifted (length (before ++ line ∷ []))) more) (nets_more before line ∙ ap (λ hs. nets_of before ++ hs) e)
    ∙ append_assoc (nets_of before) (map (shifted (length before)) first) (map (shifted (length (before ++ line ∷ []))) more)
    ∙ ap (λ hs. nets_of before ++ (map (shifted (length before)) first ++ hs)) (shifted_more (length (before ++ line ∷ [])) (length before) more (length-append before (line ∷ [])))
    ∙ ap (λ hs. nets_of before ++ hs) (sym (map-append (shifted (length before)) first (map (shifted 1) more)))

-- ---- names

pub names-shifted : (n : ℕ) (heads : List NetHead) → names_of (map (shifted n) heads) ≡ names_of heads
names-shifted n [] = refl
names-shifted n (h ∷ heads) = ap (λ names. h.name ∷ names) (names-shifted n heads)

twice_at : (t : Bool) (nets : List NetHead) (o : Option (List ℕ)) (reduced : Bool) (later : List (List ℕ))
    → AreNew (names_of nets) (names_of (first_heads t (unwrap_or o []) reduced) ++ later)
    → (t && is_some_and (is_taken nets) o) ≡ false
twice_at true nets None reduced later new = refl
twice_at true nets (Some name) reduced later new = new.0
twice_at false nets o reduced later new = refl

pub new_after : (before names later : List (List ℕ)) → AreNew before (names ++ later) → AreNew (before ++ names) later
new_after before [] later h = subst (λ b. AreNew b later) (sym (append-nil before)) h
new_after before (x ∷ names) later h = subst (λ b. AreNew b later) (append_assoc before (x ∷ []) names) (new_after (before ++ x ∷ []) names later h.1)

-- the names after a line
names_after : (before : List Line) (line : Line) (first : List NetHead) → listed (net_in before line) ≡ map (shifted (length before)) first
    → names_of (nets_of before) ++ names_of first ≡ names_of (nets_of (before ++ line ∷ []))
names_after before line first e =
    ap (λ names. names_of (nets_of before) ++ names) (sym (names-shifted (length before) first))
    ∙ sym (map-append (λ (head : NetHead). head.name) (nets_of before) (map (shifted (length before)) first))
    ∙ ap (λ hs. names_of (nets_of before ++ hs)) (sym e)
    ∙ ap names_of (sym (nets_more before line))

names_both : (first more : List NetHead) → names_of (first ++ map (shifted 1) more) ≡ names_of first ++ names_of more
names_both first more =
    map-append (λ (head : NetHead). head.name) first (map (shifted 1) more) ∙ ap (λ names. names_of first ++ names) (names-shifted 1 more)

-- ---- lines

kept_none : (old new later : List Line) → IsAlike old new → AreKept old new [] later
kept_none old new later a = record {
  heads = [];
  old_nets = ap nets_of (append-nil old) ∙ sym (append-nil (nets_of old));
  nets = ap nets_of (append-nil new) ∙ sym (append-nil (nets_of new));
  alike = subst (λ front. IsAlike front (new ++ [])) (sym (append-nil old)) (subst (IsAlike old) (sym (append-nil new)) a);
  run = λ h. tt;
}

line_kept : (old new lines later later_new : List Line) (line : Line) → IsAlike old new → fault_of old line (lines ++ later) ≡ None → end_at later_new ≡ end_at later
    → AreKept (old ++ line ∷ []) (new ++ line ∷ []) lines later_new → AreKept old new (line ∷ lines) later_new
line_kept old new lines later later_new line a clear ends rest =
    let reduced = bytes_eq (first_word line) (codes "*R_NET") in
    let first = first_heads (is_net_head old line) (unwrap_or (name_in old line) []) reduced in
    let adds : listed (net_in new line) ≡ map (shifted (length new)) first =
    line_adds new line
    ∙ ap (λ t. map (shifted (length new)) (first_heads t (unwrap_or (name_in new line) []) reduced)) (head_alike old new line a)
    ∙ ap (λ o. map (shifted (length new)) (first_heads (is_net_head old line) (unwrap_or o []) reduced)) (name_alike old new line a) in
    record {
      heads = first ++ map (shifted 1) rest.heads;
      old_nets = add_more old lines line first rest.heads (line_adds old line) rest.old_nets;
      nets = add_more new lines line first rest.heads adds rest.nets;
      alike =
          subst (λ front. IsAlike front (new ++ (line ∷ lines))) (append_assoc old (line ∷ []) lines)
          (subst (IsAlike ((old ++ line ∷ []) ++ lines)) (append_assoc new (line ∷ []) lines) rest.alike);
      run = λ h.
          let g : AreNew (names_of (nets_of new)) (names_of first ++ names_of rest.heads) = subst (AreNew (names_of (nets_of new))) (names_both first rest.heads) h in (
            kept_fault old new line (lines ++ later) (lines ++ later_new) a clear (ap is_some (ends_alike lines later later_new ends))
                (ap (λ t. t && is_some_and (is_taken (nets_of new)) (name_in new line)) (head_alike old new line a)
                ∙ ap (λ o. is_net_head old line && is_some_and (is_taken (nets_of new)) o) (name_alike old new line a)
                ∙ twice_at (is_net_head old line) (nets_of new) (name_in old line) reduced (names_of rest.heads) g),
            rest.run
                (subst (λ names. AreNew names (names_of rest.heads)) (names_after new line first adds)
                (new_after (names_of (nets_of new)) (names_of first) (names_of rest.heads) g)),
          );
    }

pub lines_kept : LinesAreReadElsewhere
lines_kept old new [] later later_new a run ends = kept_none old new later_new a
lines_kept old new (line ∷ lines) later later_new a run ends =
    line_kept old new lines later later_new line a run.0 ends
    (lines_kept (old ++ line ∷ []) (new ++ line ∷ []) lines later later_new (alike_more old new line a) run.1 ends)
