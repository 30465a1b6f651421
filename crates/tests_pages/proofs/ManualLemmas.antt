-- What one more line of a manual page lists, and lists that are the same as far as they were compared.
use Rattle.std.proofs.Common.{◌≡◌, ℕ, ◌+◌, ◌<◌, Bool, true, false, List, [], ◌∷◌, ◌++◌, map, take, drop, length, get_or, sym, ap, ap₂, ◌∙◌, append-nil, Bor}
use mathlib.Core.List.{append_assoc}
use Rattle.std.proofs.lemmas.Bool.{true≢false}
use Rattle.std.proofs.lemmas.List.{get_or-map, map_more}
use Rattle.std.proofs.lemmas.Slice.Eq.{bytes_eq-Decides}
use Rattle.std.specs.Str.{bytes_eq}
use Rattle.vg_scan.specs.Lines.{lines_of, words}
use Rattle.vg_words.specs.declared.option.Opt.{Opt}
use Rattle.tests_pages.specs.Manual.{is_open_after, listed_by, listed_from, written_name}

-- the lines from a place on are one line and those from the next place on
abbrev pub IsNext : List ℕ → ℕ → List ℕ → ℕ → Type 0
IsNext page at line next = lines_of (drop at page) ≡ words line ∷ lines_of (drop next page)

pub listed_more : (page : List ℕ) (at next : ℕ) (line : List ℕ) (before after : Bool) (old new all : List (List ℕ)) → IsNext page at line next
    → all ≡ old ++ listed_from before (lines_of (drop at page)) → new ≡ old ++ listed_by (words line) before
    → after ≡ is_open_after (words line) before → all ≡ new ++ listed_from after (lines_of (drop next page))
unfolding listed_from
listed_more page at next line before after old new all first e found state =
    let rest = lines_of (drop next page) in
    e ∙ ap (λ ls. old ++ listed_from before ls) first
    ∙ sym (append_assoc old (listed_by (words line) before) (listed_from (is_open_after (words line) before) rest))
    ∙ ap₂ (λ a b. a ++ listed_from b rest) (sym found) (sym state)

pub listed_all : (page : List ℕ) (at : ℕ) (before : Bool) (old all : List (List ℕ)) → lines_of (drop at page) ≡ []
    → all ≡ old ++ listed_from before (lines_of (drop at page)) → old ≡ all
unfolding listed_from
listed_all page at before old all none e = sym (e ∙ ap (λ ls. old ++ listed_from before ls) none ∙ append-nil old)

-- texts, and options by their names, are the same up to a place, and at it
abbrev Texts : Type 0
Texts = List (Bor (List ℕ))

pub same_more : (found : Texts) (options : List Opt) (at : ℕ) (d : Bor (List ℕ)) (o : Opt) → at < length found → at < length options
    → map (λ option. option.now) (take at found) ≡ map written_name (take at options)
    → true ≡ bytes_eq (get_or found at d).now (written_name (get_or options at o))
    → map (λ option. option.now) (take (at + 1) found) ≡ map written_name (take (at + 1) options)
same_more found options at d o low low_too e same =
    map_more (λ option. option.now) found at d low
    ∙ ap₂ (λ (xs : List (List ℕ)) x. xs ++ x ∷ []) e ((bytes_eq-Decides (get_or found at d).now (written_name (get_or options at o))).0 (sym same))
    ∙ sym (map_more written_name options at o low_too)

-- where they differ at a place, they are not the same
pub differ : (found : Texts) (options : List Opt) (at : ℕ) (d : Bor (List ℕ)) (o : Opt) → at < length found → at < length options
    → false ≡ bytes_eq (get_or found at d).now (written_name (get_or options at o))
    → map (λ option. option.now) found ≡ map written_name options → ⊥
differ found options at d o low low_too other e =
    let text = (get_or found at d).now in
    let same : text ≡ written_name (get_or options at o) =
    sym (get_or-map (λ option. option.now) found at d [] low) ∙ ap (λ xs. get_or xs at []) e ∙ get_or-map written_name options at o [] low_too in
    true≢false (sym ((bytes_eq-Decides text (written_name (get_or options at o))).1 same) ∙ sym other)
