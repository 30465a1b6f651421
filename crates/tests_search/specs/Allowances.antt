-- What a node allows of some repeaters.
use Rattle.std.specs.Prelude.{ℕ, ◌<◌, ⊤}
use Rattle.std.specs.List.{All as Each, AllPairs}
use Rattle.elmore.specs.declared.allowed.Allowed.{Allowed}
use Rattle.elmore.specs.declared.allowed.Allowed.TheVariants.{All, Only}

-- all of so many, or some of them by rising numbers
abbrev pub IsAllowance : ℕ → Allowed → Type 0
IsAllowance reps All = ⊤
IsAllowance reps (Only numbers) = AllPairs (λ a b. a < b) numbers × Each (λ b. b < reps) numbers
