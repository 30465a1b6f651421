-- The nets that lines add, each as its lines.
use Rattle.std.proofs.Common.{◌≡◌, ℕ, zero, suc, ◌+◌, ◌<◌, ◌≤◌, Bool, true, false, ◌&&◌, not, cond, List, [], ◌∷◌, ◌++◌, length, take, drop, map, refl, sym, ap, ◌∙◌, arith, append_assoc, length-append, Option, Some, None, is_some, All}
use Rattle.std.specs.Prelude.{unwrap_or, option_map}
use Rattle.std.proofs.lemmas.List.{append-nil, map-append, length-map}
use Rattle.std.proofs.lemmas.List.Elements.{All-head, All-tail}
use Rattle.vg_scan.specs.Lines.{Line, words}
use Rattle.spef_file.specs.Nets.{NetHead, is_end, is_head, end_at}
use Rattle.spef_file.specs.HeaderLines.{in_header}
use Rattle.spef_file.specs.Regions.{in_net, place_of, is_net_head}
use Rattle.spef_file.specs.Statements.{listed, gathered, name_in, net_in, nets_of}
use Rattle.spef_patch_laws.specs.Runs.{IsRun, IsAlike, MayBegin, head_in, all_of, IsInner, AreNetLines, names_of}
use Rattle.spef_patch_laws.specs.NetTexts.{NetText, up_to_end, text_before, text_at, texts_in, text_names, LinesOfNet, whole, as_words}
use Rattle.spef_patch_laws.proofs.StepLemmas.{net_head, head_place, over_more, inside_place}
use Rattle.spef_patch_laws.proofs.FaultLemmas.{has_none}
use Rattle.spef_patch_laws.proofs.PassLemmas.{end_there, inner_stays}
use Rattle.spef_patch_laws.proofs.KeptLemmas.{ends_alike, alike_more, head_alike, name_alike}

-- ---- lists

pub gathered_both : {A : Type 0} (add : List Line → Line → Option A) (before xs ys : List Line) → gathered add before (xs ++ ys) ≡ gathered add before xs ++ gathered add (before ++ xs) ys
gathered_both add before [] ys = ap (λ b. gathered add b ys) (sym (append-nil before))
gathered_both add before (x ∷ xs) ys =
    ap (λ more. listed (add before x) ++ more) (gathered_both add (before ++ x ∷ []) xs ys ∙ ap (λ b. gathered add (before ++ x ∷ []) xs ++ gathered add b ys) (append_assoc before (x ∷ []) xs))
    ∙ sym (append_assoc (listed (add before x)) (gathered add (before ++ x ∷ []) xs) (gathered add (before ++ (x ∷ xs)) ys))

pub nets_both : (before lines : List Line) → nets_of (before ++ lines) ≡ nets_of before ++ gathered net_in before lines
unfolding nets_of
nets_both before lines = gathered_both net_in [] before lines

pub texts_both : (before : List Line) (xs ys later : List (List ℕ)) → texts_in before (xs ++ ys) later ≡ texts_in before xs (ys ++ later) ++ texts_in (before ++ map words xs) ys later
texts_both before [] ys later = ap (λ b. texts_in b ys later) (sym (append-nil before))
texts_both before (x ∷ xs) ys later =
    let first = listed (net_in before (words x)) in
    let next = before ++ words x ∷ [] in
    ap (λ ls. map (text_before ls) first ++ texts_in next (xs ++ ys) later) (append_assoc xs ys later)
    ∙ ap (λ more. map (text_before (xs ++ (ys ++ later))) first ++ more)
    (texts_both next xs ys later ∙ ap (λ b. texts_in next xs (ys ++ later) ++ texts_in b ys later) (append_assoc before (words x ∷ []) (map words xs)))
    ∙ sym (append_assoc (map (text_before (xs ++ (ys ++ later))) first) (texts_in next xs (ys ++ later)) (texts_in (before ++ (words x ∷ map words xs)) ys later))

-- their names
names_first : (later : List (List ℕ)) (heads : List NetHead) → text_names (map (text_before later) heads) ≡ names_of heads
names_first later [] = refl
names_first later (h ∷ heads) = ap (λ names. h.name ∷ names) (names_first later heads)

pub names_in : (before : List Line) (lines later : List (List ℕ)) → text_names (texts_in before lines later) ≡ names_of (gathered net_in before (map words lines))
names_in before [] later = refl
names_in before (l ∷ lines) later =
    let first = listed (net_in before (words l)) in
    let next = before ++ words l ∷ [] in
    map-append (λ (text : NetText). text.name) (map (text_before (lines ++ later)) first) (texts_in next lines later)
    ∙ ap (λ names. names ++ text_names (texts_in next lines later)) (names_first (lines ++ later) first)
    ∙ ap (λ names. names_of first ++ names) (names_in next lines later)
    ∙ sym (map-append (λ (head : NetHead). head.name) first (gathered net_in next (map words lines)))

-- ---- all lines

drop_front : (xs ys : List (List ℕ)) → drop (length xs) (xs ++ ys) ≡ ys
drop_front [] ys = refl
drop_front (x ∷ xs) ys = drop_front xs ys

texts_at : (front : List (List ℕ)) (line : List ℕ) (lines : List (List ℕ)) (t : Bool) (name : List ℕ) (reduced : Bool)
    → map (text_before (lines ++ [])) (listed (cond t (Some (record { name = name; reduced = reduced; line = length (map words front) + 1 })) None))
    ≡ map (text_at (front ++ line ∷ lines)) (listed (cond t (Some (record { name = name; reduced = reduced; line = length (map words front) + 1 })) None))
texts_at front line lines true name reduced =
    let n : length (front ++ line ∷ []) ≡ length (map words front) + 1 = omega (arith, length-append front (line ∷ []), length-map front words) in
    let d : drop (length (map words front) + 1) (front ++ line ∷ lines) ≡ lines =
    ap (λ k. drop k (front ++ line ∷ lines)) (sym n) ∙ ap (drop (length (front ++ line ∷ []))) (sym (append_assoc front (line ∷ []) lines)) ∙ drop_front (front ++ line ∷ []) lines in
    ap (λ ls. record { name = name; reduced = reduced; lines = up_to_end ls } ∷ []) (append-nil lines ∙ sym d)
texts_at front line lines false name reduced = refl

pub texts_are : (front lines : List (List ℕ)) → texts_in (map words front) lines [] ≡ map (text_at (front ++ lines)) (gathered net_in (map words front) (map words lines))
texts_are front [] = refl
texts_are front (l ∷ lines) =
    let first = listed (net_in (map words front) (words l)) in
    let next : map words front ++ words l ∷ [] ≡ map words (front ++ l ∷ []) = sym (map-append words front (l ∷ [])) in
    let rest = map words front ++ words l ∷ [] in
    ap (λ ts. ts ++ texts_in rest lines [])
    (texts_at front l lines (is_net_head (map words front) (words l)) (unwrap_or (name_in (map words front) (words l)) []) (head_in (map words front) (words l)).reduced)
    ∙ ap (λ ts. map (text_at (front ++ l ∷ lines)) first ++ ts)
    (ap (λ b. texts_in b lines []) next ∙ texts_are (front ++ l ∷ []) lines
    ∙ ap (λ all. map (text_at all) (gathered net_in (map words (front ++ l ∷ [])) (map words lines))) (append_assoc front (l ∷ []) lines)
    ∙ ap (λ b. map (text_at (front ++ l ∷ lines)) (gathered net_in b (map words lines))) (sym next))
    ∙ sym (map-append (text_at (front ++ l ∷ lines)) first (gathered net_in rest (map words lines)))

-- ---- the end of a net

within_step : (a b : Bool) (o : Option ℕ) (n k : ℕ) → cond a (Some 0) (cond b None (option_map (λ m. m + 1) o)) ≡ Some n → ((m : ℕ) → o ≡ Some m → m < k) → n < suc k
within_step true b o n k e h = (let z : 0 ≡ n = cc in omega arith)
within_step false true o n k e h = absurd (cc)
within_step false false None n k e h = absurd (cc)
within_step false false (Some m) n k e h = (let z : m + 1 ≡ n = cc in let l = h m refl in omega arith)

-- where a net's end comes before the next head, and none comes behind these lines, it is one of them
end_within : (lines later : List Line) (n : ℕ) → end_at later ≡ None → end_at (lines ++ later) ≡ Some n → n < length lines
end_within [] later n none e = absurd (let f : None ≡ Some n = sym none ∙ e in cc)
end_within (line ∷ lines) later n none e = within_step (is_end line) (is_head line) (end_at (lines ++ later)) n (length lines) e (λ m f. end_within lines later m none f)

pub some_is : (o : Option ℕ) → is_some o ≡ true → (n : ℕ) × (o ≡ Some n)
some_is None e = absurd (cc)
some_is (Some n) e = (n, refl)

pub take_front : {A : Type 0} (n : ℕ) (xs ys : List A) → n ≤ length xs → take n (xs ++ ys) ≡ take n xs
take_front zero xs ys l = refl
take_front (suc n) [] ys l = absurd (omega arith)
take_front (suc n) (x ∷ xs) ys l = ap (λ zs. x ∷ zs) (take_front n xs ys (omega arith))

up_to : (lines later : List (List ℕ)) (n : ℕ) → end_at (map words lines ++ map words later) ≡ Some n → n ≤ length lines → up_to_end (lines ++ later) ≡ take n lines
up_to lines later n e l =
    ap (λ ls. take (unwrap_or (end_at ls) 0) (lines ++ later)) (map-append words lines later)
    ∙ ap (λ o. take (unwrap_or o 0) (lines ++ later)) e
    ∙ take_front n lines later l

up_kept : (lines later other : List (List ℕ)) → end_at (map words later) ≡ None → end_at (map words other) ≡ None
    → is_some (end_at (map words lines ++ map words later)) ≡ true → up_to_end (lines ++ other) ≡ up_to_end (lines ++ later)
up_kept lines later other none none_other some =
    let (n, e) = some_is (end_at (map words lines ++ map words later)) some in
    let l : n ≤ length lines = (let z = end_within (map words lines) (map words later) n none e in omega (arith, z, length-map lines words)) in
    up_to lines other n (ends_alike (map words lines) (map words later) (map words other) (none_other ∙ sym none) ∙ e) l ∙ sym (up_to lines later n e l)

-- ---- lines that are kept

first_kept : (t : Bool) (name : List ℕ) (reduced : Bool) (m n : ℕ) (xs ys : List (List ℕ)) → (t ≡ true → up_to_end xs ≡ up_to_end ys)
    → map (text_before xs) (listed (cond t (Some (record { name = name; reduced = reduced; line = m })) None))
    ≡ map (text_before ys) (listed (cond t (Some (record { name = name; reduced = reduced; line = n })) None))
first_kept true name reduced m n xs ys h = ap (λ ls. record { name = name; reduced = reduced; lines = ls } ∷ []) (h refl)
first_kept false name reduced m n xs ys h = refl

pub and_not : (t : Bool) (o : Option ℕ) → (t && not (is_some o)) ≡ false → t ≡ true → is_some o ≡ true
and_not true None e f = absurd (cc)
and_not true (Some n) e f = refl
and_not false o e f = absurd (cc)

pub texts_kept : (old new : List Line) (lines later other : List (List ℕ)) → IsAlike old new → IsRun old (map words lines) (map words later)
    → end_at (map words later) ≡ None → end_at (map words other) ≡ None → texts_in new lines other ≡ texts_in old lines later
texts_kept old new [] later other a run none none_other = refl
texts_kept old new (l ∷ lines) later other a run none none_other =
    let line = words l in
    let reduced = (head_in old line).reduced in
    let here = has_none old line (map words lines ++ map words later) run.0 in
    let first : map (text_before (lines ++ other)) (listed (net_in new line)) ≡ map (text_before (lines ++ later)) (listed (net_in old line)) =
    ap (λ t. map (text_before (lines ++ other)) (listed (cond t (Some (record { name = unwrap_or (name_in new line) []; reduced = reduced; line = length new + 1 })) None))) (head_alike old new line a)
    ∙ ap (λ o. map (text_before (lines ++ other)) (listed (cond (is_net_head old line) (Some (record { name = unwrap_or o []; reduced = reduced; line = length new + 1 })) None))) (name_alike old new line a)
    ∙ first_kept (is_net_head old line) (unwrap_or (name_in old line) []) reduced (length new + 1) (length old + 1) (lines ++ other) (lines ++ later)
    (λ t. up_kept lines later other none none_other (and_not (is_net_head old line) (end_at (map words lines ++ map words later)) here.unended t)) in
    ap (λ ts. ts ++ texts_in (new ++ line ∷ []) lines other) first
    ∙ ap (λ ts. map (text_before (lines ++ later)) (listed (net_in old line)) ++ ts)
    (texts_kept (old ++ line ∷ []) (new ++ line ∷ []) lines later other (alike_more old new line a) run.1 none none_other)

-- before other lines
pub texts_ends : (before : List Line) (lines later other : List (List ℕ)) → IsRun before (map words lines) (map words later)
    → end_at (map words later) ≡ None → end_at (map words other) ≡ None → texts_in before lines other ≡ texts_in before lines later
texts_ends before [] later other run none none_other = refl
texts_ends before (l ∷ lines) later other run none none_other =
    let line = words l in
    let h = head_in before line in
    let here = has_none before line (map words lines ++ map words later) run.0 in
    ap (λ ts. ts ++ texts_in (before ++ line ∷ []) lines other)
    (first_kept (is_net_head before line) h.name h.reduced h.line h.line (lines ++ other) (lines ++ later)
    (λ t. up_kept lines later other none none_other (and_not (is_net_head before line) (end_at (map words lines ++ map words later)) here.unended t)))
    ∙ ap (λ ts. map (text_before (lines ++ later)) (listed (net_in before line)) ++ ts) (texts_ends (before ++ line ∷ []) lines later other run.1 none none_other)

-- ---- the lines of a net

inside_none : (before : List Line) (line : Line) → in_header before ≡ false → place_of before ≡ in_net → net_in before line ≡ None
inside_none before line over place = rw (over, place) refl

texts_inside : (before : List Line) (lines later : List (List ℕ)) → in_header before ≡ false → place_of before ≡ in_net → All IsInner (map words lines) → texts_in before lines later ≡ []
texts_inside before [] later over place all = refl
texts_inside before (l ∷ lines) later over place all =
    let here : IsInner (words l) = All-head IsInner (words l) (map words lines) all in
    ap (λ o. map (text_before (lines ++ later)) (listed o) ++ texts_in (before ++ words l ∷ []) lines later) (inside_none before (words l) over place)
    ∙ texts_inside (before ++ words l ∷ []) lines later (over_more before (words l) over) (inside_place before (words l) false place here.no_end)
    (All-tail IsInner (words l) (map words lines) all)

pub words_whole : (net : LinesOfNet) → map words (whole net) ≡ all_of (as_words net)
words_whole net = ap (λ ls. words net.head ∷ ls) (map-append words net.inner (net.end ∷ []))

-- the net that they add
abbrev pub text_of : List Line → LinesOfNet → NetText
text_of before net = record { name = (head_in before (words net.head)).name; reduced = (head_in before (words net.head)).reduced; lines = net.inner }

inner_up : (net : LinesOfNet) (later : List (List ℕ)) → AreNetLines (as_words net) → up_to_end ((net.inner ++ net.end ∷ []) ++ later) ≡ net.inner
inner_up net later are =
    let n = length (map words net.inner) in
    let e : end_at (map words net.inner ++ map words (net.end ∷ later)) ≡ Some n = end_there (map words net.inner) (map words later) (words net.end) are.inner are.end in
    ap up_to_end (append_assoc net.inner (net.end ∷ []) later)
    ∙ up_to net.inner (net.end ∷ later) n e (omega (arith, length-map net.inner words))
    ∙ ap (λ k. take k net.inner) (length-map net.inner words)
    ∙ take_whole net.inner
  where
    take_whole : (xs : List (List ℕ)) → take (length xs) xs ≡ xs
    take_whole [] = refl
    take_whole (x ∷ xs) = ap (λ ys. x ∷ ys) (take_whole xs)

pub texts_of_net : (before : List Line) (net : LinesOfNet) (later : List (List ℕ)) → MayBegin before → AreNetLines (as_words net)
    → texts_in before (whole net) later ≡ text_of before net ∷ []
texts_of_net before net later may are =
    let head = words net.head in
    let begun = before ++ head ∷ [] in
    let middle = begun ++ map words net.inner in
    let over = over_more before head may.over in
    let place = head_place before head may are.head in
    let stays = inner_stays begun (map words net.inner) over place are.inner in
    let rest : texts_in begun (net.inner ++ net.end ∷ []) later ≡ [] =
    texts_both begun net.inner (net.end ∷ []) later
    ∙ ap (λ ts. ts ++ texts_in middle (net.end ∷ []) later) (texts_inside begun net.inner ((net.end ∷ []) ++ later) over place are.inner)
    ∙ ap (λ o. map (text_before later) (listed o) ++ []) (inside_none middle (words net.end) stays.says.over stays.place) in
    ap (λ t. map (text_before ((net.inner ++ net.end ∷ []) ++ later)) (listed (cond t (Some (head_in before head)) None)) ++ texts_in begun (net.inner ++ net.end ∷ []) later)
    (net_head before head may are.head)
    ∙ ap (λ ts. text_before ((net.inner ++ net.end ∷ []) ++ later) (head_in before head) ∷ ts) rest
    ∙ ap (λ ls. record { name = (head_in before head).name; reduced = (head_in before head).reduced; lines = ls } ∷ []) (inner_up net later are)
