-- Candidates at live places, and what comes after them.
use Rattle.std.proofs.Common.{◌≡◌, ◌≢◌, ℕ, suc, ◌<◌, ◌≤◌, List, ◌∷◌, length, map, sym, ap, ◌∙◌, subst, arith}
use Rattle.std.proofs.lemmas.List.{length-map}
use Rattle.cand_pool.specs.Links.{none, link}
use Rattle.cand_pool.specs.Candidates.{Candidate}
use Rattle.cand_pool.specs.Pools.{Block, candidate, items, IsFrom, IsPlaceAt}
use Rattle.cand_pool.proofs.TrailLaws.{trail_is, chain_short}
use Rattle.cand_pool.proofs.PublicLaws.{place_low, next_place, from_some, first_from}

-- what comes from a slot on is what the map says
pub from_items : (s : Block) (slot : ℕ) (xs : List Candidate) → IsFrom s slot xs → items s slot ≡ xs
from_items s slot xs from =
    ap (λ (l : List ℕ). map (candidate s) l) (trail_is (link s.links) (length s.links) slot from.slots from.few from.chain) ∙ from.shows

pub from_named : (s : Block) (slot : ℕ) (xs : List Candidate) → IsFrom s slot xs → IsFrom s slot (items s slot)
from_named s slot xs from = subst (λ (l : List Candidate). IsFrom s slot l) (sym (from_items s slot xs from)) from

-- it is no more than the block has slots
pub from_short : (s : Block) (slot : ℕ) (xs : List Candidate) → IsFrom s slot xs → length xs ≤ none
from_short s slot xs from =
    let short : length from.slots ≤ length s.links = chain_short (link s.links) (length s.links) slot from.slots from.few from.chain in
    let few : length s.links ≤ none = from.few in
    let e : length (map (candidate s) from.slots) ≡ length xs = ap (λ (l : List Candidate). length l) from.shows in
    let f : length (map (candidate s) from.slots) ≡ length from.slots = length-map from.slots (candidate s) in
    omega arith

-- what follows a slot is one less
pub record IsFollowed (s : Block) (slot : ℕ) : Type 0 where
  pub low : slot < length s.links
  pub from : IsFrom s (link s.links slot) (items s (link s.links slot))
  pub fewer : length (items s slot) ≡ suc (length (items s (link s.links slot)))
  pub here : items s slot ≡ candidate s slot ∷ items s (link s.links slot)

pub followed : (s : Block) (slot : ℕ) (xs : List Candidate) → IsFrom s slot xs → slot ≢ none → IsFollowed s slot
followed s slot xs from some =
    let (ys, e) = first_from s slot from.slots xs some from.chain from.shows in
    let place : IsPlaceAt s slot (candidate s slot ∷ ys) = subst (λ (l : List Candidate). IsPlaceAt s slot l) e (from_some s slot xs some from) in
    let rest : IsFrom s (link s.links slot) ys = next_place s slot (candidate s slot) ys place in
    let f : items s (link s.links slot) ≡ ys = from_items s (link s.links slot) ys rest in
    let here : items s slot ≡ candidate s slot ∷ items s (link s.links slot)
    = from_items s slot xs from ∙ e ∙ ap (λ (l : List Candidate). candidate s slot ∷ l) (sym f) in
    record {
      low = place_low s slot (candidate s slot ∷ ys) place;
      from = from_named s (link s.links slot) ys rest;
      fewer = ap (λ (l : List Candidate). length l) here;
      here = here;
    }
