-- The first tokens of identifiers.
use Rattle.std.proofs.Common.{◌≡◌, ℕ, Bool, true, false, not, ◌&&◌, List, [], ◌∷◌, ◌++◌, map, refl, sym, ap, ◌∙◌, append_assoc}
use Rattle.std.specs.List.{list_any}
use Rattle.std.specs.Str.{bytes_eq}
use Rattle.std.proofs.lemmas.List.{append-nil}
use Rattle.name_tables.specs.Distinct.{with_name}
use Rattle.ver_syntax.specs.declared.row.Row.{Row}
use Rattle.ver_file.specs.Nets.{first_tokens, is_first}
use Rattle.ver_items.specs.Sections.{is_net_name, name_at}

pub no_token : (text : List ℕ) (names : List (List ℕ)) → first_tokens text names [] ≡ []
unfolding first_tokens
no_token text names = refl

pub new_token : (text : List ℕ) (names : List (List ℕ)) (r : Row) (after : List Row) → is_first text names r ≡ true
    → first_tokens text names (r ∷ after) ≡ r ∷ first_tokens text (names ++ name_at text r ∷ []) after
unfolding first_tokens
new_token text names r after t = rw t refl

pub old_token : (text : List ℕ) (names : List (List ℕ)) (r : Row) (after : List Row) → is_first text names r ≡ false
    → first_tokens text names (r ∷ after) ≡ first_tokens text names after
unfolding first_tokens
old_token text names r after t = rw t refl

second : (a b : Bool) → (a && not b) ≡ true → b ≡ false
second true false t = refl
second true true t = absurd (cc)
second false b t = absurd (cc)

map_last : (text : List ℕ) (rows : List Row) (r : Row) → map (name_at text) (rows ++ r ∷ []) ≡ map (name_at text) rows ++ name_at text r ∷ []
map_last text [] r = refl
map_last text (q ∷ rows) r = ap (λ ns. name_at text q ∷ ns) (map_last text rows r)

pub first_is_new : (text : List ℕ) (names : List (List ℕ)) (r : Row) → is_first text names r ≡ true → list_any (bytes_eq (name_at text r)) names ≡ false
first_is_new text names r t = second (is_net_name r) (list_any (bytes_eq (name_at text r)) names) t

module _ (text : List ℕ) (names : List (List ℕ)) (r : Row) (t : is_first text names r ≡ true) where
  -- the name of a first token is put last
  pub put_last : with_name names (name_at text r) ≡ names ++ name_at text r ∷ []
  put_last = let e : list_any (bytes_eq (name_at text r)) names ≡ false = second (is_net_name r) (list_any (bytes_eq (name_at text r)) names) t in rw e refl

  pub names_grow : (tokens : List Row) → names ≡ map (name_at text) tokens → with_name names (name_at text r) ≡ map (name_at text) (tokens ++ r ∷ [])
  names_grow tokens e = put_last ∙ ap (λ ns. ns ++ name_at text r ∷ []) e ∙ sym (map_last text tokens r)

  pub tokens_grow : (all tokens rows after : List Row) → all ≡ tokens ++ first_tokens text names rows → rows ≡ r ∷ after
      → all ≡ (tokens ++ r ∷ []) ++ first_tokens text (with_name names (name_at text r)) after
  tokens_grow all tokens rows after e f =
      e ∙ ap (λ rs. tokens ++ first_tokens text names rs) f
      ∙ ap (λ rs. tokens ++ rs) (new_token text names r after t)
      ∙ sym (append_assoc tokens (r ∷ []) (first_tokens text (names ++ name_at text r ∷ []) after))
      ∙ ap (λ ns. (tokens ++ r ∷ []) ++ first_tokens text ns after) (sym put_last)

pub tokens_stay : (text : List ℕ) (names : List (List ℕ)) (r : Row) (all tokens rows after : List Row) → is_first text names r ≡ false
    → all ≡ tokens ++ first_tokens text names rows → rows ≡ r ∷ after → all ≡ tokens ++ first_tokens text names after
tokens_stay text names r all tokens rows after t e f =
    e ∙ ap (λ rs. tokens ++ first_tokens text names rs) f ∙ ap (λ rs. tokens ++ rs) (old_token text names r after t)

pub tokens_done : (text : List ℕ) (names : List (List ℕ)) (all tokens rows : List Row) → all ≡ tokens ++ first_tokens text names rows → rows ≡ [] → tokens ≡ all
tokens_done text names all tokens rows e f =
    sym (e ∙ ap (λ rs. tokens ++ first_tokens text names rs) f ∙ ap (λ rs. tokens ++ rs) (no_token text names) ∙ append-nil tokens)
