-- What the words of a request keep: no file is written twice, and new names begin with a prefix of its form.
use Rattle.std.proofs.Common.{◌≡◌, ◌≢◌, ℕ, List, [], ◌∷◌, length, refl, arith, true, false, Bool, Option, Some, None, ◌&&◌, codes}
use Rattle.std.specs.Prelude.{nat_le, not, unwrap_or}
use Rattle.std.specs.List.{list_all, AllPass}
use Rattle.std.proofs.lemmas.List.Elements.{All-weaker}
use Rattle.std.proofs.lemmas.Bool.{and_parts}
use Rattle.std.proofs.lemmas.List.Sums.{AllPass-from_list_all}
use Rattle.std.proofs.lemmas.Bool.Decides.{nat_tests}
use Rattle.vg_scan.specs.Printed.{is_solid}
use Rattle.vg_words.specs.Options.{names_file}
use Rattle.vg_scan.specs.Prefixes.{is_letter, is_name_byte, is_prefix}
use Rattle.vg_words.specs.Request.{IsRequest, has_bad_value, prefix_of, value}
use Rattle.vg_words.specs.declared.ask.Ask.{Ask}
use Rattle.vg_words.specs.declared.ask.Mode.{Mode as ModeSpec}
use Rattle.vg_words.specs.declared.ask.Mode.TheVariants.{Wire, Time, Best, Frontier, Check, Gen, Sta, Segment, Repair, Total, Width}
use Rattle.vg_words.specs.declared.option.Opt.{Opt}
use Rattle.vg_words.specs.declared.option.Opt.TheVariants.{OutSpef, OutVerilog, Cert, Prefix}
use Rattle.vg_words.proofs.FileLemmas.{files_differ}
use Rattle.vg_words.proofs.JudgeLemmas.{few, small, whole_request}
use Rattle.vg_run.specs.Inputs.{cert_in}
use Rattle.vg_run.specs.Run.{AreApart, IsSized}

-- ---- files

apart_in : (words : List (List ℕ)) (ask : Ask) → IsRequest words ask → (one other : Opt) → names_file one ≡ true → names_file other ≡ true → one ≢ other
    → (file : List ℕ) → value ask one ≡ Some file → value ask other ≡ Some file → ⊥
apart_in words ask is one other in_one in_other apart file x y = files_differ words ask is one other in_one in_other apart file file x y refl

cert_named : (mode : ModeSpec) (ask : Ask) (file : List ℕ) → cert_in mode ask ≡ Some file → ask.cert ≡ Some file
cert_named Wire ask file e = absurd cc
cert_named Time ask file e = absurd cc
cert_named Best ask file e = e
cert_named Frontier ask file e = absurd cc
cert_named Check ask file e = absurd cc
cert_named Gen ask file e = absurd cc
cert_named Sta ask file e = absurd cc
cert_named Segment ask file e = absurd cc
cert_named Repair ask file e = absurd cc
cert_named Total ask file e = absurd cc
cert_named Width ask file e = absurd cc

netlist_first : OutVerilog ≢ OutSpef
netlist_first e = cc

netlist_not_cert : OutVerilog ≢ Cert
netlist_not_cert e = cc

parasitics_not_cert : OutSpef ≢ Cert
parasitics_not_cert e = cc

-- no file is written twice
pub outputs_apart : (words : List (List ℕ)) (ask : Ask) → IsRequest words ask → AreApart ask
outputs_apart words ask is = record {
  design = λ file. apart_in words ask is OutVerilog OutSpef refl refl netlist_first file;
  netlist = λ file verilog cert. apart_in words ask is OutVerilog Cert refl refl netlist_not_cert file verilog (cert_named ask.mode ask file cert);
  parasitics = λ file spef cert. apart_in words ask is OutSpef Cert refl refl parasitics_not_cert file spef (cert_named ask.mode ask file cert);
}

-- ---- the prefix

name_byte : (b : ℕ) → is_name_byte b ≡ true → is_solid b ≡ true
name_byte b e = grind (arith, nat_tests)

letter : (b : ℕ) → is_letter b ≡ true → is_name_byte b ≡ true
letter b e = grind (arith, nat_tests)

solid_bytes : (bytes : List ℕ) → list_all is_name_byte bytes ≡ true → AllPass is_solid bytes
solid_bytes bytes e = All-weaker (λ b. is_name_byte b ≡ true) (λ b. is_solid b ≡ true) name_byte bytes (AllPass-from_list_all is_name_byte bytes e)

prefix_bytes : (prefix : List ℕ) → is_prefix prefix ≡ true → list_all is_name_byte prefix ≡ true
prefix_bytes [] e = absurd cc
prefix_bytes (b ∷ bytes) e =
    let rest = (and_parts (nat_le (length bytes) 31) (is_letter b && list_all is_name_byte bytes) e).1 in
    let (first, more) = and_parts (is_letter b) (list_all is_name_byte bytes) rest in
    λ i. letter b first i && more i

good_prefix : (prefix : Option (List ℕ)) → has_bad_value Prefix prefix ≡ false → is_prefix (unwrap_or prefix (codes "vgi_")) ≡ true
good_prefix None e = refl
good_prefix (Some prefix) e = by_test (is_prefix prefix) e
  where
    by_test : (b : Bool) → not b ≡ false → b ≡ true
    by_test true e = refl
    by_test false e = absurd cc

-- new names begin with a prefix of its form
pub prefix_is : (words : List (List ℕ)) (ask : Ask) → IsRequest words ask → is_prefix (prefix_of ask) ≡ true
prefix_is words ask is = good_prefix ask.prefix ((whole_request words ask is).good Prefix)

-- which can stand in words
pub prefix_is_solid : (words : List (List ℕ)) (ask : Ask) → IsRequest words ask → AllPass is_solid (prefix_of ask)
prefix_is_solid words ask is = solid_bytes (prefix_of ask) (prefix_bytes (prefix_of ask) (prefix_is words ask is))

-- a design that is to be made up has a size that it can have, and resistors are cut into a number of parts that they can
-- have
pub size_is : (words : List (List ℕ)) (ask : Ask) → IsRequest words ask → IsSized ask
size_is words ask is = (small words ask is, few words ask is)
