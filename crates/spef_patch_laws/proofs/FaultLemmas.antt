-- Lines without a fault.
use Rattle.std.proofs.Common.{◌≡◌, ℕ, Bool, true, false, cond, List, refl, ap, Option, Some, None, is_some}
use Rattle.vg_scan.specs.Lines.{Line}
use Rattle.spef_file.specs.declared.fault.SpefKind.{SpefKind}
use Rattle.spef_file.specs.declared.fault.SpefKind.TheVariants.{Header, Unit as UnitKind, MapTwice, MapUnknown, NoEnd, Stray, NetTwice, Unsupported}
use Rattle.spef_file.specs.Keywords.{is_net}
use Rattle.spef_file.specs.Nets.{end_at, is_head, is_taken}
use Rattle.spef_file.specs.Regions.{is_foreign_head}
use Rattle.spef_file.specs.Statements.{nets_of, name_in}
use Rattle.spef_file.specs.Faults.{is_bad_header, is_bad_unit, is_mapped_twice, is_unmapped, is_unended, is_stray, is_net_twice, fault_of}
use Rattle.spef_patch_laws.specs.Runs.{IsAlike, MayBegin, IsHeadOf}
use Rattle.spef_patch_laws.proofs.StepLemmas.{opens}

-- a line has none of the faults
pub record HasNone (before : List Line) (line : Line) (later : List Line) : Type 0 where
  pub header : is_bad_header before line ≡ false
  pub unit : is_bad_unit before line ≡ false
  pub twice : is_mapped_twice before line ≡ false
  pub unmapped : is_unmapped before line ≡ false
  pub unended : is_unended before line later ≡ false
  pub stray : is_stray before line ≡ false
  pub taken : is_net_twice before line ≡ false
  pub foreign : is_foreign_head before line ≡ false

-- the first kind of which this says yes
abbrev picks : Bool → Bool → Bool → Bool → Bool → Bool → Bool → Bool → Option SpefKind
picks header unit twice unmapped unended stray taken foreign =
    cond header (Some Header) (cond unit (Some UnitKind) (cond twice (Some MapTwice) (cond unmapped (Some MapUnknown)
    (cond unended (Some NoEnd) (cond stray (Some Stray) (cond taken (Some NetTwice) (cond foreign (Some Unsupported) None)))))))

none_picked : (a b c d e f g h : Bool) → a ≡ false → b ≡ false → c ≡ false → d ≡ false → e ≡ false → f ≡ false → g ≡ false → h ≡ false → picks a b c d e f g h ≡ None
none_picked a b c d e f g h p q r s t u v w = rw (p, q, r, s, t, u, v, w) refl

pub none : (before : List Line) (line : Line) (later : List Line) → HasNone before line later → fault_of before line later ≡ None
unfolding fault_of
none before line later h =
    none_picked (is_bad_header before line) (is_bad_unit before line) (is_mapped_twice before line) (is_unmapped before line)
    (is_unended before line later) (is_stray before line) (is_net_twice before line) (is_foreign_head before line)
    h.header h.unit h.twice h.unmapped h.unended h.stray h.taken h.foreign

not_first : (a : Bool) (kind : SpefKind) (rest : Option SpefKind) → cond a (Some kind) rest ≡ None → (a ≡ false) × (rest ≡ None)
not_first true kind rest e = absurd (cc)
not_first false kind rest e = (refl, e)

pub has_none : (before : List Line) (line : Line) (later : List Line) → fault_of before line later ≡ None → HasNone before line later
unfolding fault_of
has_none before line later none =
    let a = is_bad_header before line in
    let b = is_bad_unit before line in
    let c = is_mapped_twice before line in
    let d = is_unmapped before line in
    let e = is_unended before line later in
    let f = is_stray before line in
    let g = is_net_twice before line in
    let h = is_foreign_head before line in
    let after_g = cond h (Some Unsupported) None in
    let after_f = cond g (Some NetTwice) after_g in
    let after_e = cond f (Some Stray) after_f in
    let after_d = cond e (Some NoEnd) after_e in
    let after_c = cond d (Some MapUnknown) after_d in
    let after_b = cond c (Some MapTwice) after_c in
    let after_a = cond b (Some UnitKind) after_b in
    let p = not_first a Header after_a none in
    let q = not_first b UnitKind after_b p.1 in
    let r = not_first c MapTwice after_c q.1 in
    let s = not_first d MapUnknown after_d r.1 in
    let t = not_first e NoEnd after_e s.1 in
    let u = not_first f Stray after_f t.1 in
    let v = not_first g NetTwice after_g u.1 in
    let w = not_first h Unsupported None v.1 in
    record { header = p.0; unit = q.0; twice = r.0; unmapped = s.0; unended = t.0; stray = u.0; taken = v.0; foreign = w.0 }

-- ---- the head of a written net

pub name_is : (before : List Line) (line : Line) (name : List ℕ) → IsHeadOf before line name → name_in before line ≡ Some name
name_is before line name h = rw h.plain h.named

pub written_head : (before : List Line) (line : Line) (name : List ℕ) → IsHeadOf before line name → is_head line ≡ true
written_head before line name h = ap is_net h.opens

pub head_fault : (before : List Line) (line : Line) (later : List Line) (name : List ℕ) → MayBegin before → IsHeadOf before line name
    → is_some (end_at later) ≡ true → is_taken (nets_of before) name ≡ false → fault_of before line later ≡ None
head_fault before line later name may h ends free =
    let o = opens line (written_head before line name h) in
    let named = name_is before line name h in
    none before line later (record {
      header = rw may.over refl;
      unit = rw may.over refl;
      twice = rw (may.over, may.out, o.nothing) refl;
      unmapped = rw (may.over, may.out, o.net, h.plain) refl;
      unended = rw (may.over, may.out, o.net, ends) refl;
      stray = rw (may.over, may.out, o.net, o.nothing, h.plain, h.named) refl;
      taken = rw (may.over, may.out, o.net, h.plain, h.named, free) refl;
      foreign = rw (may.over, may.out, o.foreign) refl;
    })

-- ---- a line that is kept

pub kept_fault : (old new : List Line) (line : Line) (later later_new : List Line) → IsAlike old new → fault_of old line later ≡ None
    → is_some (end_at later_new) ≡ is_some (end_at later) → is_net_twice new line ≡ false → fault_of new line later_new ≡ None
kept_fault old new line later later_new a clear ends free =
    let h = has_none old line later clear in
    none new line later_new (record {
      header = rw a.says.over refl;
      unit = rw a.says.over refl;
      twice = rw (a.says.over, a.place, a.says.rows) (rw a.says.old_over at h.twice);
      unmapped = rw (a.says.over, a.place, a.says.rows, a.says.chars) (rw a.says.old_over at h.unmapped);
      unended = rw (a.says.over, a.place, ends) (rw a.says.old_over at h.unended);
      stray = rw (a.says.over, a.place, a.says.rows, a.says.chars) (rw a.says.old_over at h.stray);
      taken = free;
      foreign = rw (a.says.over, a.place) (rw a.says.old_over at h.foreign);
    })
