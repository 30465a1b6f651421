-- Faults, where memory may run out.
use Rattle.std.specs.Prelude.{◌≡◌, Option, Some, None, Result, Ok, Err}
use Rattle.spef_net.specs.declared.fault.NetKind.{NetKind}
use Rattle.spef_net.specs.declared.fault.NetKind.TheVariants.{Conn, Cap, Res, Number, Foreign, SelfCoupled, Memory}

-- this fault, or out of memory
abbrev pub IsFaultOrMemory : Option NetKind → NetKind → Type 0
IsFaultOrMemory fault Memory = Unit {0}
IsFaultOrMemory fault Conn = fault ≡ Some Conn
IsFaultOrMemory fault Cap = fault ≡ Some Cap
IsFaultOrMemory fault Res = fault ≡ Some Res
IsFaultOrMemory fault Foreign = fault ≡ Some Foreign
IsFaultOrMemory fault SelfCoupled = fault ≡ Some SelfCoupled
IsFaultOrMemory fault (Number f) = fault ≡ Some (Number f)

abbrev pub fault_in : {A : Type 0} → Result A NetKind → Option NetKind
fault_in (Ok _) = None
fault_in (Err kind) = Some kind

-- an answer that is what is defined, but for Memory
abbrev pub Agrees : {A : Type 0} → Result A NetKind → Result A NetKind → Type 0
Agrees (Ok x) s = s ≡ Ok x
Agrees (Err kind) s = IsFaultOrMemory (fault_in s) kind
