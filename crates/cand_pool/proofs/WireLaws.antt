-- The turns of a sieve and of a wire.
use Rattle.std.proofs.Common.{◌≡◌, ◌≢◌, ℕ, suc, true, false, List, [], ◌∷◌, ◌++◌, map, length, refl, sym, ap, ◌∙◌, subst, arith, inl, inr, append_assoc, ℤ}
use Rattle.std.specs.Prelude.{int_lt}
use Rattle.std.proofs.lemmas.Bool.{cases_Bool}
use Rattle.std.proofs.lemmas.List.{append-nil}
use Rattle.cand_pool.specs.Links.{none}
use Rattle.cand_pool.specs.Candidates.{Candidate, Candidates, IsModest, AreModest, wired, loaded, wired_to}
use Rattle.cand_pool.specs.Pools.{Block, candidate, items, KeepsOthers}
use Rattle.cand_pool.specs.Sequences.{kept, dropped, lowest, undominated, dominated}
use Rattle.cand_pool.specs.Sieves.{IsAt, IsSplit, IsSieve, IsSifted, Sifts, IsTurned, IsWiring, names}
use Rattle.cand_pool.specs.declared.ends.Ends.{Ends}
use Rattle.cand_pool.specs.declared.sieve.Sieve.{Sieve}
use Rattle.cand_pool.proofs.PoolMoves.{keeps_then}
use Rattle.cand_pool.proofs.PublicLaws.{first_held, none_holds, empty_held, held_items}
use Rattle.cand_pool.proofs.SieveLaws.{turned, swapped, keeps_like}

shifted : (ps zs all : List Candidate) (y : Candidate) → ps ++ (y ∷ zs) ≡ all → (ps ++ (y ∷ [])) ++ zs ≡ all
shifted ps zs all y e = append_assoc ps (y ∷ []) zs ∙ e

split_kept : (all ks ds more : Candidates) (y : Candidate) (best : ℤ) → int_lt best y.q ≡ true → IsSplit all ks ds (y ∷ more) best → IsSplit all (ks ++ (y ∷ [])) ds more y.q
split_kept all ks ds more y best over split =
    let k : ks ++ (y ∷ kept y.q more) ≡ undominated all = rw over at split.kept_is in
    let d : ds ++ dropped y.q more ≡ dominated all = rw over at split.dropped_is in
    record { kept_is = shifted ks (kept y.q more) (undominated all) y k; dropped_is = d }

split_dropped : (all ks ds more : Candidates) (y : Candidate) (best : ℤ) → int_lt best y.q ≡ false → IsSplit all ks ds (y ∷ more) best → IsSplit all ks (ds ++ (y ∷ [])) more best
split_dropped all ks ds more y best under split =
    let k : ks ++ kept best more ≡ undominated all = rw under at split.kept_is in
    let d : ds ++ (y ∷ dropped best more) ≡ dominated all = rw under at split.dropped_is in
    record { kept_is = k; dropped_is = shifted ds (dropped best more) (dominated all) y d }

-- the first of the rest is kept
pub turn_kept : (s s' : Block) (at : Sieve) (rest' kept' : Ends) (xs ks ds : Candidates) (y : Candidate) → int_lt at.best y.q ≡ true → IsSifted s s' at.rest at.kept at.dropped rest' kept' xs ks ds y
    → IsTurned s s' at (record { rest = rest'; kept = kept'; dropped = at.dropped; best = y.q }) xs ks ds y
turn_kept s s' at rest' kept' xs ks ds y over sifted = record {
  ks' = ks ++ (y ∷ []);
  ds' = ds;
  sieve = sifted.sieve;
  split = λ all more split. split_kept all ks ds more y at.best over split;
  others = sifted.others;
  free = sifted.free;
}

-- the first of the rest is dropped
pub turn_dropped : (s s' : Block) (at : Sieve) (rest' dropped' : Ends) (xs ks ds : Candidates) (y : Candidate) → int_lt at.best y.q ≡ false → IsSifted s s' at.rest at.dropped at.kept rest' dropped' xs ds ks y
    → IsTurned s s' at (record { rest = rest'; kept = at.kept; dropped = dropped'; best = at.best }) xs ks ds y
turn_dropped s s' at rest' dropped' xs ks ds y under sifted = record {
  ks' = ks;
  ds' = ds ++ (y ∷ []);
  sieve = turned s' rest' dropped' at.kept xs (ds ++ (y ∷ [])) ks sifted.sieve;
  split = λ all more split. split_dropped all ks ds more y at.best under split;
  others = swapped s s' at.rest.first at.dropped.first at.kept.first rest'.first dropped'.first at.kept.first sifted.others;
  free = sifted.free;
}

-- a sieve, said by the map
pub named_sieve : (s : Block) (rest a b : Ends) (xs ps rs : Candidates) → IsSieve s rest a b xs ps rs → IsSieve s rest a b (items s rest.first) (items s a.first) (items s b.first)
named_sieve s rest a b xs ps rs sieve =
    let f : xs ≡ items s rest.first = sym (held_items s rest.first rest.last xs sieve.more) in
    let g : ps ≡ items s a.first = sym (held_items s a.first a.last ps sieve.one) in
    let h : rs ≡ items s b.first = sym (held_items s b.first b.last rs sieve.two) in
    subst (λ (l : Candidates). IsSieve s rest a b (items s rest.first) (items s a.first) l) h
    (subst (λ (l : Candidates). IsSieve s rest a b (items s rest.first) l rs) g
    (subst (λ (l : Candidates). IsSieve s rest a b l ps rs) f sieve))

-- what the loop of a wire needs for its next turn
pub record IsReady (t : Block) (at : Sieve) : Type 0 where
  pub sieve : Sifts t at (items t at.rest.first) (items t at.kept.first) (items t at.dropped.first)
  pub modest : IsModest (candidate t at.rest.first)

pub ready : (r c : ℕ) (s : Block) (list : Ends) (all : Candidates) (t : Block) (at : Sieve) → IsWiring r c s list all t at → at.rest.first ≢ none → IsReady t at
ready r c s list all t at w some =
    let (ys, e) = first_held t at.rest.first at.rest.last w.xs some w.sieve.more in
    let m : AreModest (candidate t at.rest.first ∷ ys) = subst (λ (l : Candidates). AreModest l) e w.modest in
    record { sieve = named_sieve t at.rest at.kept at.dropped w.xs w.ks w.ds w.sieve; modest = m.0 }

-- one turn of a wire
pub wire_turned : (r c : ℕ) (s : Block) (list : Ends) (all : Candidates) (t u : Block) (at at' : Sieve) (q : ℤ) (load : ℕ) → IsWiring r c s list all t at → at.rest.first ≢ none
    → q ≡ (wired_to r c (candidate t at.rest.first)).q → load ≡ (wired_to r c (candidate t at.rest.first)).c
    → ((x : Candidate) (xs ks ds : Candidates) → Sifts t at (x ∷ xs) ks ds → IsTurned t u at at' xs ks ds (record { q = q; c = load; tag = x.tag }))
    → IsWiring r c s list all u at'
wire_turned r c s list all t u at at' q load w some q_is load_is turn =
    let (ys, e) = first_held t at.rest.first at.rest.last w.xs some w.sieve.more in
    let sieve : Sifts t at (candidate t at.rest.first ∷ ys) w.ks w.ds = subst (λ (l : Candidates). Sifts t at l w.ks w.ds) e w.sieve in
    let y_is : wired_to r c (candidate t at.rest.first) ≡ record { q = q; c = load; tag = (candidate t at.rest.first).tag }
    = λ i. record { q = sym q_is i; c = sym load_is i; tag = (candidate t at.rest.first).tag } in
    let split : IsSplit (map (wired_to r c) all) w.ks w.ds (wired_to r c (candidate t at.rest.first) ∷ map (wired_to r c) ys) at.best
    = subst (λ (l : Candidates). IsSplit (map (wired_to r c) all) w.ks w.ds (map (wired_to r c) l) at.best) e w.split in
    let m : AreModest (candidate t at.rest.first ∷ ys) = subst (λ (l : Candidates). AreModest l) e w.modest in
    let done : IsTurned t u at at' ys w.ks w.ds (record { q = q; c = load; tag = (candidate t at.rest.first).tag }) = turn (candidate t at.rest.first) ys w.ks w.ds sieve in
    record {
      xs = ys;
      ks = done.ks';
      ds = done.ds';
      sieve = done.sieve;
      split = done.split (map (wired_to r c) all) (map (wired_to r c) ys) (subst (λ (y : Candidate). IsSplit (map (wired_to r c) all) w.ks w.ds (y ∷ map (wired_to r c) ys) at.best) y_is split);
      modest = m.1;
      others = keeps_then s t u (list.first ∷ []) (names at) (names at) (names at') (names at') w.others done.others (λ k m. m) (λ k m. inl m);
      free = done.free ∙ w.free;
    }

-- a turn takes one candidate off the rest
pub turn_fewer : (t u : Block) (at at' : Sieve) (q : ℤ) (load : ℕ) (xs ks ds : Candidates) → Sifts t at xs ks ds → at.rest.first ≢ none
    → ((x : Candidate) (xs ks ds : Candidates) → Sifts t at (x ∷ xs) ks ds → IsTurned t u at at' xs ks ds (record { q = q; c = load; tag = x.tag }))
    → suc (length (items u at'.rest.first)) ≡ length (items t at.rest.first)
turn_fewer t u at at' q load xs ks ds sieve some turn =
    let (ys, e) = first_held t at.rest.first at.rest.last xs some sieve.more in
    let sieve' : Sifts t at (candidate t at.rest.first ∷ ys) ks ds = subst (λ (l : Candidates). Sifts t at l ks ds) e sieve in
    let done : IsTurned t u at at' ys ks ds (record { q = q; c = load; tag = (candidate t at.rest.first).tag }) = turn (candidate t at.rest.first) ys ks ds sieve' in
    let f : length (items u at'.rest.first) ≡ length ys = ap (λ (l : Candidates). length l) (held_items u at'.rest.first at'.rest.last ys done.sieve.more) in
    let g : length (items t at.rest.first) ≡ length xs = ap (λ (l : Candidates). length l) (held_items t at.rest.first at.rest.last xs sieve.more) in
    let h : length xs ≡ length (candidate t at.rest.first ∷ ys) = ap (λ (l : Candidates). length l) e in
    omega arith

-- before the first turn nothing is kept or dropped
pub split_start : (all : Candidates) → IsSplit all [] [] all lowest
split_start all = record { kept_is = refl; dropped_is = refl }

-- after the last turn all are
pub split_end : (all ks ds : Candidates) (best : ℤ) → IsSplit all ks ds [] best → (ks ≡ undominated all) × (ds ≡ dominated all)
split_end all ks ds best split =
    let k : ks ++ [] ≡ undominated all = split.kept_is in
    let d : ds ++ [] ≡ dominated all = split.dropped_is in
    (sym (append-nil ks) ∙ k, sym (append-nil ds) ∙ d)

pub wire_start : (r c : ℕ) (s : Block) (list empty : Ends) (all : Candidates) → empty.first ≡ none → IsAt s list all → AreModest all → IsWiring r c s list all s (record { rest = list; kept = empty; dropped = empty; best = lowest })
wire_start r c s list empty all e h modest = record {
  xs = all;
  ks = [];
  ds = [];
  sieve = record {
    more = h;
    one = empty_held s empty.first empty.last h.few e;
    two = empty_held s empty.first empty.last h.few e;
    rest_one = λ z f. z (f ∙ e);
    rest_two = λ z f. z (f ∙ e);
    one_two = λ z f. z e;
  };
  split = split_start (map (wired_to r c) all);
  modest = modest;
  others = record {
    few = λ few. few;
    stays = λ k kl xs h some out. h;
    fresh = λ k kl xs h some out is_new. elim is_new [ inl f ↦ out (inl f) | inr (inl f) ↦ some (f ∙ e) | inr (inr (inl f)) ↦ some (f ∙ e) | inr (inr (inr o)) ↦ o ];
  };
  free = refl;
}

-- a load leaves each q, so the same ones are kept
map_wired_to : (r c : ℕ) (xs : Candidates) → map (wired_to r c) xs ≡ map (loaded c) (map (wired r) xs)
map_wired_to r c [] = refl
map_wired_to r c (x ∷ xs) = ap (λ (l : Candidates). wired_to r c x ∷ l) (map_wired_to r c xs)

kept_loaded : (c : ℕ) (best : ℤ) (xs : Candidates) → kept best (map (loaded c) xs) ≡ map (loaded c) (kept best xs)
kept_loaded c best [] = refl
kept_loaded c best (x ∷ xs) = elim (cases_Bool (int_lt best x.q)) [
  | inl t ↦ rw t (ap (λ (l : Candidates). loaded c x ∷ l) (kept_loaded c x.q xs))
  | inr f ↦ rw f (kept_loaded c best xs)
]

pub loaded_undominated : (r c : ℕ) (xs : Candidates) → undominated (map (wired_to r c) xs) ≡ map (loaded c) (undominated (map (wired r) xs))
loaded_undominated r c xs = ap (λ (l : Candidates). undominated l) (map_wired_to r c xs) ∙ kept_loaded c lowest (map (wired r) xs)

pub wire_end : (r c : ℕ) (s : Block) (list : Ends) (all : Candidates) (t : Block) (at : Sieve) → IsWiring r c s list all t at → at.rest.first ≡ none
    → IsAt t at.kept (undominated (map (wired_to r c) all)) × IsAt t at.dropped (dominated (map (wired_to r c) all))
wire_end r c s list all t at w e =
    let empty : w.xs ≡ [] = none_holds t at.rest.first at.rest.last w.xs e w.sieve.more in
    let (k, d) = split_end (map (wired_to r c) all) w.ks w.ds at.best (subst (λ (l : Candidates). IsSplit (map (wired_to r c) all) w.ks w.ds (map (wired_to r c) l) at.best) empty w.split) in
    (subst (λ (l : Candidates). IsAt t at.kept l) k w.sieve.one, subst (λ (l : Candidates). IsAt t at.dropped l) d w.sieve.two)

pub wire_others : (s : Block) (first : ℕ) (t : Block) (rest a b : ℕ) → KeepsOthers s (first ∷ []) t (rest ∷ a ∷ b ∷ []) → KeepsOthers s (first ∷ []) t (a ∷ b ∷ [])
wire_others s first t rest a b keeps = keeps_like s t (first ∷ []) (rest ∷ a ∷ b ∷ []) (first ∷ []) (a ∷ b ∷ []) keeps (λ k m. m) (λ k m. inr m)
