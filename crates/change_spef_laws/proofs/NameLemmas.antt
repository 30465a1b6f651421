-- The names of stages' nets: old ones of the nets that are split, and new ones, all different.
use Rattle.std.proofs.Common.{◌≡◌, ℕ, ◌<◌, ◌^◌, ◌==◌, inl, inr, Bool, true, false, cond, List, [], ◌∷◌, ◌++◌, codes, find, length, map, refl, sym, ap, ◌∙◌, subst, arith, Some, None}
use Rattle.std.specs.Fmt.{decimal}
use Rattle.std.specs.List.{list_any, starts_with}
use Rattle.std.specs.Str.{bytes_eq}
use Rattle.std.proofs.lemmas.Bool.{cases_Bool, cases_eq, eq-eqb, false≢true, ne_eqb}
use Rattle.std.proofs.lemmas.Fmt.{decimal_injective}
use Rattle.std.proofs.lemmas.List.{append_cancel_left}
use Rattle.spef_file.specs.Files.{File, file_lines, said_by}
use Rattle.spef_file.specs.Indexes.{IsIndexOf}
use Rattle.spef_file.specs.Nets.{NetHead}
use Rattle.spef_file.specs.Tables.{is_section, names_of as row_names}
use Rattle.spef_file.specs.declared.spef_index.SpefIndex.{SpefIndex}
use Rattle.spef_net.specs.declared.net.ParNet.{ParNet}
use Rattle.vg_change.specs.Taken.{names_of, taken}
use Rattle.vg_design.specs.Designs.{Design, net_names}
use Rattle.vg_split.specs.Conditions.{IsOld, IsSplit}
use Rattle.vg_split.specs.NewNames.{net_name}
use Rattle.vg_split.specs.Splits.{Split, forest, net_of, number_of}
use Rattle.vg_split.proofs.NewNameLemmas.{old_net}
use Rattle.vg_split.proofs.SplitLemmas.{number_fits}
use Rattle.spef_patch_laws.specs.Runs.{names_of as head_names}
use Rattle.spef_patch_laws.proofs.ApartLemmas.{In, any_none, in_map, in_right}
use Rattle.spef_patch_laws.proofs.NamedLemmas.{found_in}
use Rattle.spef_patch_laws.proofs.ReplacedLemmas.{names_rows}
use Rattle.vg_split.specs.Stages.{heads}
use Rattle.spef_wire.specs.Nets.{IsNetNamed}

-- ---- old names

none_passes : {X : Type 0} (test : X → Bool) (xs : List X) (x : X) → find test xs ≡ None → In x xs → test x ≡ false
none_passes test [] x none there = absurd there
none_passes test (y ∷ ys) x none there = either (test y) refl (none_passes test ys x) there
  where
    either : (t : Bool) → test y ≡ t → (find test ys ≡ None → In x ys → test x ≡ false) → In x (y ∷ ys) → test x ≡ false
    either true e more here = absurd (let h : Some y ≡ None = sym (ap (λ b. cond b (Some y) (find test ys)) e) ∙ none in cc)
    either false e more (inl same) = ap test same ∙ e
    either false e more (inr later) = more (sym (ap (λ b. cond b (Some y) (find test ys)) e) ∙ none) later

-- the names of sections are those of the file's nets
section_names : (text : List ℕ) (index : SpefIndex) → IsIndexOf text index → row_names index.sections ≡ net_names text
section_names text index of = sym (names_rows index.sections) ∙ ap (λ (f : File). head_names f.nets) of.said.says

last_of : {X : Type 0} (x : X) (ws xs ys zs : List X) → In x zs → In x (ws ++ (xs ++ (ys ++ zs)))
last_of x ws xs ys zs there = in_right x ws (xs ++ (ys ++ zs)) (in_right x xs (ys ++ zs) (in_right x ys zs there))

-- no net's name begins with the prefix
listed_old : (d : Design) (prefix name : List ℕ) → taken d prefix ≡ None → In name (net_names d.spef) → IsOld prefix name
listed_old d prefix name free there = none_passes (λ n. starts_with ◌==◌ n prefix) (names_of d) name free behind
  where
    behind : In name (names_of d)
    behind = last_of name (map (λ instance. instance.name) d.netlist.instances) (map (λ net. net.name) d.netlist.nets) (map (λ row. row.1) (said_by (file_lines d.spef)).names) (net_names d.spef) there

pub section_old : (d : Design) (prefix : List ℕ) (index : SpefIndex) (name : List ℕ) → IsIndexOf d.spef index → taken d prefix ≡ None
    → is_section index.sections name ≡ true → IsOld prefix name
section_old d prefix index name of free section = elim (cases_Bool (starts_with ◌==◌ name prefix)) as (λ _. IsOld prefix name) [
  | inl new ↦ absurd (
      let names = section_names d.spef index of in
      false≢true (sym (ap (λ (ns : List (List ℕ)). list_any (bytes_eq name) ns) names ∙ any_none name (net_names d.spef) (λ there.
      false≢true (sym (listed_old d prefix name free there) ∙ new))) ∙ section))
  | inr old ↦ old
]

pub named_old : (d : Design) (prefix name : List ℕ) (net : ParNet) → taken d prefix ≡ None → IsNetNamed d.spef name net → IsOld prefix name
named_old d prefix name net free named =
    let (there, is) = found_in name named.file.nets named.head named.head_of.named in
    let in_file = in_map (λ (h : NetHead). h.name) named.head named.file.nets there in
    listed_old d prefix name free
    (subst (λ (n : List ℕ). In n (net_names d.spef)) (sym is)
    (subst (λ (f : File). In named.head.name (map (λ (h : NetHead). h.name) f.nets)) named.head_of.said.says in_file))

-- ---- new names

pub one_net : (prefix : List ℕ) (m n : ℕ) → m < 2 ^ 64 → n < 2 ^ 64 → net_name prefix m ≡ net_name prefix n → m ≡ n
one_net prefix m n m_fits n_fits e = decimal_injective m n m_fits n_fits (append_cancel_left (prefix ++ codes "n") (decimal m) (decimal n) e)

-- the new name of a stage's net, by the number of a cell's stage
pub record IsNewName (x : Split) (k : ℕ) : Type 0 where
  pub cell : ℕ
  pub low : cell < length (heads (forest x))
  pub some : 0 < cell
  pub root : k ≡ 0 → cell ≡ x.keeper
  pub other : (k ≡ 0 → ⊥) → cell ≡ k
  pub is : net_of x k ≡ net_name x.prefix (number_of x cell)

-- the keeper's name, or a new one
pub data StageName (x : Split) (k : ℕ) : Type 0 where
  keeps : k ≡ x.keeper → net_of x k ≡ x.par.name → StageName x k
  is_new : (k ≡ x.keeper → ⊥) → IsNewName x k → StageName x k

name_is : (x : Split) (k : ℕ) (t : Bool) → (k == x.keeper) ≡ t → net_of x k ≡ cond t x.par.name (net_name x.prefix (number_of x (cond (k == 0) x.keeper k)))
name_is x k t e = ap (λ b. cond b x.par.name (net_name x.prefix (number_of x (cond (k == 0) x.keeper k)))) e

pub stage_name : (x : Split) → IsSplit x → (k : ℕ) → k < length (heads (forest x)) → StageName x k
stage_name x is k low = elim (cases_eq k x.keeper) as (λ _. StageName x k) [
  | inl e ↦ keeps e (name_is x k true (eq-eqb k x.keeper e))
  | inr apart ↦
      (let name = name_is x k false (ne_eqb k x.keeper apart) in
      is_new apart (elim (cases_eq k 0) as (λ _. IsNewName x k) [
        | inl root ↦ record {
          cell = x.keeper;
          low = is.keeper;
          some = omega (arith, root, apart);
          root = λ e. refl;
          other = λ other. absurd (other root);
          is = name ∙ ap (λ b. net_name x.prefix (number_of x (cond b x.keeper k))) (eq-eqb k 0 root);
        }
        | inr other ↦ record {
          cell = k;
          low = low;
          some = omega (arith, other);
          root = λ e. absurd (other e);
          other = λ e. refl;
          is = name ∙ ap (λ b. net_name x.prefix (number_of x (cond b x.keeper k))) (ne_eqb k 0 other);
        }
      ]))
]

-- the nets of two stages have different names
pub names_differ : (x : Split) → IsSplit x → (j k : ℕ) → j < k → k < length (heads (forest x)) → net_of x j ≡ net_of x k → ⊥
names_differ x is j k less low e = both (stage_name x is j (omega (arith, less, low))) (stage_name x is k low)
  where
    both : StageName x j → StageName x k → ⊥
    both (keeps a f) (keeps b g) = omega (arith, a, b, less)
    both (keeps a f) (is_new b g) = old_net x.prefix x.par.name (number_of x g.cell) is.new.name (sym f ∙ e ∙ g.is)
    both (is_new a f) (keeps b g) = old_net x.prefix x.par.name (number_of x f.cell) is.new.name (sym g ∙ sym e ∙ f.is)
    both (is_new a f) (is_new b g) =
        let same = one_net x.prefix (number_of x f.cell) (number_of x g.cell) (number_fits x is f.cell f.low) (number_fits x is g.cell g.low) (sym f.is ∙ e ∙ g.is) in
        let right : g.cell ≡ k = g.other (λ z. omega (arith, z, less)) in
        elim (cases_eq j 0) [
          | inl root ↦ b (omega (arith, f.root root, same, f.some, g.some, right))
          | inr other ↦ omega (arith, f.other other, same, f.some, g.some, right, less)
        ]
