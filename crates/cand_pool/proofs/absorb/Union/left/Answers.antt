use Rattle.std.proofs.Common.{rules, ◌≡◌, inl, inr, to_z-of_z}
use Rattle.std.specs.Int.{w128}
use Rattle.cand_pool.specs.Links.{none}
use Rattle.cand_pool.proofs.UnionLaws.{first_ends, second_ends}
use Rattle.cand_pool.proofs.absorb.Union.left.Goals as goal

pub returns-then-self-eq-NONE-clause-ending : goal.returns-then-self-eq-NONE-clause-ending
returns-then-self-eq-NONE-clause-ending c = λ s one two all t w. first_ends s one two all t c.args.self w c.if-self-eq-NONE.true

pub returns-clause-ending : goal.returns-clause-ending
returns-clause-ending c = λ s one two all t w.
    let used : c.args.self.sieve.rest.first ≡ none = elim c.requires [ inl e ↦ e | inr e ↦ absurd (c.if-self-eq-NONE.false e) ] in
    let best_is = to_z-of_z {w = w128} {z = c.args.self.sieve.best} (search rules) in
    rw best_is (second_ends s one two all t c.args.self w used)
