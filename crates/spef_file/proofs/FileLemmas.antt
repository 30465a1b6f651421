-- A file's lines, all read.
use Rattle.std.proofs.Common.{◌≡◌, ℕ, true, false, List, [], refl, Ok}
use Rattle.std.proofs.Math.Bool.{Bool-set}
use Rattle.vg_scan.specs.Separators.{is_separator, is_bus_pair}
use Rattle.spef_file.specs.declared.keyword.Region.TheVariants.{Outside}
use Rattle.spef_file.specs.Machine.{State, START, NO_HEADING}
use Rattle.spef_file.specs.Nets.{NetHead}
use Rattle.spef_file.specs.Machine.{read}

start_chars : (p : is_separator 47 ≡ true) (q : is_separator 58 ≡ true) (r : is_bus_pair 91 93 ≡ true)
    → record { divider = 47; delimiter = 58; bus_left = 91; bus_right = 93; divides = p; delimits = q; encloses = r } ≡ NO_HEADING.chars
start_chars p q r = λ i. record {
  divider = 47;
  delimiter = 58;
  bus_left = 91;
  bus_right = 93;
  divides = Bool-set true true p refl i;
  delimits = Bool-set true true q refl i;
  encloses = Bool-set true true r refl i;
}

-- the state before the first line, with other proofs of what its bytes are
pub start_is : (p : is_separator 47 ≡ true) (q : is_separator 58 ≡ true) (r : is_bus_pair 91 93 ≡ true) (names : List (List ℕ × List ℕ)) (nets : List NetHead) → names ≡ [] → nets ≡ []
    → record {
      headed = 0;
      heading = record {
        chars = record { divider = 47; delimiter = 58; bus_left = 91; bus_right = 93; divides = p; delimits = q; encloses = r };
        c_places = 0;
        r_places = 0;
      };
      region = Outside;
      in_net = false;
      count = 0;
      names = names;
      nets = nets;
    } ≡ START
start_is p q r names nets e f = λ i. record {
  headed = 0;
  heading = record { chars = start_chars p q r i; c_places = 0; r_places = 0 };
  region = Outside;
  in_net = false;
  count = 0;
  names = e i;
  nets = f i;
}

pub read-nil : (s : State) → read s [] ≡ Ok s
unfolding read
read-nil s = refl
