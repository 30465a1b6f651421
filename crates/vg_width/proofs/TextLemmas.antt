-- The lines after the heading, one after another.
use Rattle.std.proofs.Common.{◌≡◌, ℕ, zero, suc, ◌+◌, ◌<◌, ◌≤◌, ◌==◌, ◌&&◌, nat_lt, not, Bool, true, false, List, [], ◌∷◌, ◌++◌, map, length, take, drop, get_or, max, refl, sym, ap, ◌∙◌, subst, arith, add-one, Option, Some, None, ◌⊎◌, inl, inr, Ok, if◌then◌else◌}
use Rattle.std.proofs.lemmas.Bool.Decides.{nat_tests}
use Rattle.std.proofs.lemmas.List.{length-append, map-append}
use Rattle.vg_scan.specs.Lines.{Line}
use Rattle.vg_scan.specs.Faults.{IsClear, IsFirstFault}
use Rattle.vg_scan.proofs.FaultLemmas.{first_fault, clear_more}
use Rattle.vg_scan.proofs.ItemLemmas.{NextItem, next_is, all_read, take_whole}
use Rattle.vg_width.specs.declared.fault.WidthKind.{WidthKind}
use Rattle.vg_width.specs.declared.fault.WidthKind.TheVariants.{Version, Word, Number, First, TooMany, Memory}
use Rattle.vg_width.specs.Lines.{width_of}
use Rattle.vg_width.specs.Texts.{is_plain, fault_after, fault_at, missing, AreLinesOf, IsCutShort, IsFaultIn}
use Rattle.vg_width.specs.Taking.{IsFaultOrMemory, Takes, IsHeaded}
use Rattle.wire_widths.specs.declared.width.Width.{Width}

pub known : (fault : Option WidthKind) (kind : WidthKind) → IsFaultOrMemory fault kind → (kind ≡ Memory) ⊎ (fault ≡ Some kind)
known fault Memory h = inl refl
known fault Version h = inr h
known fault Word h = inr h
known fault Number h = inr h
known fault First h = inr h
known fault TooMany h = inr h

-- the fault of one of the lines after the heading
abbrev pub row_fault : List Line → ℕ → Option WidthKind
row_fault others i = fault_after i (width_of (get_or others i []))

row_at : (lines others : List Line) → IsHeaded lines others → (i : ℕ) → fault_at lines (suc i) ≡ row_fault others i
row_at lines others h i = ap (λ ls. fault_at ls (suc i)) h.lines_are

pub headed_clear : (lines others : List Line) (n : ℕ) → IsHeaded lines others → IsClear (row_fault others) n → IsClear (fault_at lines) (n + 1)
headed_clear lines others n h clear zero l = ap (λ ls. fault_at ls 0) h.lines_are ∙ ap (λ b. if b then None else Some Version) h.is
headed_clear lines others n h clear (suc i) l = row_at lines others h i ∙ clear i (omega arith)

-- the first fault, after some widths
pub headed_fault : (lines others : List Line) (n number : ℕ) (kind : WidthKind) → IsHeaded lines others → IsClear (row_fault others) n → n < length others
    → row_fault others n ≡ Some kind → number ≡ n + 2 → IsFirstFault (fault_at lines) (length lines) 1 (record { kind = kind; line = number })
headed_fault lines others n number kind h clear l here is =
    first_fault (fault_at lines) (length lines) 1 (n + 1) number kind (headed_clear lines others n h clear)
    (ap (fault_at lines) (add-one n) ∙ row_at lines others h n ∙ here) (omega (arith, ap length h.lines_are)) (omega arith)

-- what is known after some widths
pub record AreTaken (others : List Line) (rows : List Width) : Type 0 where
  pub few : length rows ≤ length others
  pub small : length rows ≤ 8
  pub clear : IsClear (row_fault others) (length rows)
  pub widths : map width_of (take (length rows) others) ≡ map Ok rows

pub none_taken : (others : List Line) (rows : List Width) → rows ≡ [] → AreTaken others rows
none_taken others rows e = rw e (record { few = omega arith; small = omega arith; clear = λ i l. absurd (omega arith); widths = refl })

not_many : (a b : Bool) → (if a then Some First else (if b then Some TooMany else None)) ≡ None → b ≡ false
not_many true b e = absurd (cc)
not_many false true e = absurd (cc)
not_many false false e = refl

pub some_place : (i : ℕ) (width : Width) → fault_after i (Ok width) ≡ None → i ≤ 7
some_place i width e = let few = not_many ((i == 0) && not (is_plain width)) (nat_lt 7 i) e in grind (arith, nat_tests)

-- one width more
pub taken_more : (others more : List Line) (line : Line) (rows new : List Width) → drop (length rows) others ≡ line ∷ more → AreTaken others rows
    → Takes (Ok tt) rows new line → (drop (length new) others ≡ more) × AreTaken others new
taken_more others more line rows new rest before (width, states, none, is) =
    let x : NextItem others (length rows) [] line more = next_is others (length rows) [] line more rest in
    let count : length new ≡ length rows + 1 = ap length is ∙ length-append rows (width ∷ []) in (
      ap (λ k. drop k others) count ∙ x.rest,
      record {
        few = omega (arith, x.within, count);
        small = omega (arith, some_place (length rows) width none, count);
        clear = rw count
            (clear_more (row_fault others) (length rows) before.clear
            (ap (λ l. fault_after (length rows) (width_of l)) x.here ∙ ap (fault_after (length rows)) states ∙ none));
        widths = ap (λ k. map width_of (take k others)) count ∙ ap (map width_of) x.front ∙ map-append width_of (take (length rows) others) (line ∷ [])
            ∙ (λ i. before.widths i ++ states i ∷ []) ∙ sym (ap (map Ok) is ∙ map-append Ok rows (width ∷ []));
      },
    )

-- a line with a fault
pub row_faulty : (lines others more : List Line) (line : Line) (rows : List Width) (number : ℕ) (kind : WidthKind) → IsHeaded lines others
    → drop (length rows) others ≡ line ∷ more → AreTaken others rows → IsFaultOrMemory (fault_after (length rows) (width_of line)) kind
    → number ≡ length rows + 2 → (kind ≡ Memory) ⊎ IsFaultIn lines (record { kind = kind; line = number })
row_faulty lines others more line rows number kind h rest before fault is =
    let x : NextItem others (length rows) [] line more = next_is others (length rows) [] line more rest in
    elim (known (fault_after (length rows) (width_of line)) kind fault) [
      | inl memory ↦ inl memory
      | inr there ↦
          inr (inl (headed_fault lines others (length rows) number kind h before.clear x.within
          (ap (λ l. fault_after (length rows) (width_of l)) x.here ∙ there) is))
    ]

-- no line is left
pub all_taken : (lines others : List Line) (rows : List Width) → IsHeaded lines others → drop (length rows) others ≡ [] → AreTaken others rows
    → 0 < length rows → AreLinesOf lines rows
all_taken lines others rows h end taken some =
    let all : length others ≡ length rows = omega (arith, all_read others (length rows) end, taken.few) in
    record {
      clear = subst (IsClear (fault_at lines)) (omega (arith, all, ap length h.lines_are)) (headed_clear lines others (length rows) h taken.clear);
      whole = ap missing h.lines_are ∙ two others (omega (arith, all, some));
      widths = ap (λ ls. map width_of (drop 1 ls)) h.lines_are ∙ ap (map width_of) (sym (take_whole others (length rows) end)) ∙ taken.widths;
    }
  where
    two : (ls : List Line) → 0 < length ls → missing (h.heading ∷ ls) ≡ None
    two [] l = absurd (omega arith)
    two (line ∷ ls) l = refl

pub none_left : (lines others : List Line) (rows : List Width) → IsHeaded lines others → drop (length rows) others ≡ [] → length rows ≡ 0
    → IsCutShort lines (record { kind = First; line = 1 })
none_left lines others rows h end none =
    let nothing : others ≡ [] = sym (ap (λ k. drop k others) none) ∙ end in
    let alone : lines ≡ h.heading ∷ [] = h.lines_are ∙ ap (λ ls. h.heading ∷ ls) nothing in
    record {
      clear = subst (IsClear (fault_at lines)) (omega (arith, ap length alone)) (headed_clear lines others 0 h (λ i l. absurd (omega arith)));
      kind = ap missing alone;
      last = sym (ap (λ (ls : List Line). max (length ls) 1) alone);
    }
