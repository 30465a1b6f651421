-- Where the connections of every netlist stand in its text.
use Rattle.std.proofs.Common.{◌≡◌, ℕ, ◌<◌, ◌≤◌, List, length, Some, sym, ap, ◌∙◌, subst, arith, inl, inr}
use Rattle.std.specs.Prelude.{option_and_then, option_map, slice_get, unwrap_or}
use Rattle.std.proofs.lemmas.Option.{same_Some}
use Rattle.vg_scan.specs.declared.lines.Span.{Span}
use Rattle.ver_text.specs.Laws.{StandInOrder}
use Rattle.ver_syntax.specs.Laws.{ItemsStandAtStart}
use Rattle.ver_module.specs.declared.link.Link.TheVariants.{One}
use Rattle.ver_module.specs.Netlists.{Instance, Netlist, Pin}
use Rattle.ver_file.specs.Modules.{Denotes}
use Rattle.ver_net.specs.Laws.{HasLink}
use Rattle.ver_net.specs.declared.pin_ref.PinRef.{PinRef}
use Rattle.ver_patch.specs.Laws.{HeadsEndFirst, SpansRise, SpansStand, StandsBetween}
use Rattle.ver_patch.specs.Pins.{span_at}
use Rattle.ver_patch.proofs.FrameLemmas.{framed}
use Rattle.ver_patch.proofs.HeadLemmas.{connections_stand}
use Rattle.ver_patch.proofs.PinLemmas.{InstanceStands, PinStands}
use Rattle.ver_patch.proofs.StandLemmas.{Chain, IsInside, chain_at, chain_two, chain_within}

-- ---- one netlist

-- the connections of a netlist stand behind its head and before its end
record AllStand (text : List ℕ) (netlist : Netlist) : Type 0 where
  instances : Chain InstanceStands netlist.head_end netlist.end_at netlist.instances
  within : netlist.end_at ≤ length text

all_stand : StandInOrder → ItemsStandAtStart → (text : List ℕ) (netlist : Netlist) → Denotes text netlist → AllStand text netlist
all_stand order law text netlist d =
    let c = connections_stand text (framed order law text d.grammar) in
    subst (AllStand text) (sym d.is) (record { instances = c.instances; within = c.within })

-- ---- pins

-- the span of a pin is that of its connection
pub span_is : (netlist : Netlist) (at : PinRef) (instance : Instance) (pin : Pin) → slice_get netlist.instances at.instance ≡ Some instance
    → slice_get instance.pins at.pin ≡ Some pin → span_at netlist at ≡ pin.span
span_is netlist at instance pin e f =
    ap (λ o. unwrap_or (option_map (λ (p : Pin). p.span) o) (record { from = 0; to = 0 }))
    (ap (option_and_then (λ (i : Instance). slice_get i.pins at.pin)) e ∙ f)

-- a connection between two places
between_from : (span : Span) (before from to after : ℕ) → before ≤ from → to ≤ after → StandsBetween from to span → StandsBetween before after span
between_from span before from to after low high s = record { behind = omega (arith, low, s.behind); some = s.some; before = omega (arith, high, s.before) }

pin_inside : (netlist : Netlist) (at : PinRef) (net from to : ℕ) (l : HasLink netlist at (One net)) → IsInside PinStands from to l.pin
    → StandsBetween from to (span_at netlist at)
pin_inside netlist at net from to l h =
    subst (StandsBetween from to) (sym (span_is netlist at l.instance l.pin l.is_instance l.is_pin))
    (between_from l.pin.span from h.start h.end to h.behind h.before (h.holds net l.has_link))

instance_inside : (netlist : Netlist) (at : PinRef) (net from to : ℕ) (l : HasLink netlist at (One net)) → IsInside InstanceStands from to l.instance
    → StandsBetween from to (span_at netlist at)
instance_inside netlist at net from to l h =
    between_from (span_at netlist at) from h.start h.end to h.behind h.before
    (pin_inside netlist at net h.start h.end l (chain_at PinStands l.instance.pins at.pin l.pin h.start h.end h.holds l.is_pin))

-- ---- the laws

pub heads_end_first : StandInOrder → ItemsStandAtStart → HeadsEndFirst
heads_end_first order law text netlist d =
    let all = all_stand order law text netlist d in
    record { rise = chain_within InstanceStands netlist.instances netlist.head_end netlist.end_at all.instances; within = all.within }

pub spans_stand : StandInOrder → ItemsStandAtStart → SpansStand
spans_stand order law text netlist at d (net, l) =
    let all = all_stand order law text netlist d in
    instance_inside netlist at net netlist.head_end netlist.end_at l
    (chain_at InstanceStands netlist.instances at.instance l.instance netlist.head_end netlist.end_at all.instances l.is_instance)

-- pins of one instance
one_instance : (netlist : Netlist) (a b : PinRef) (m n from to : ℕ) (l : HasLink netlist a (One m)) (k : HasLink netlist b (One n))
    → IsInside InstanceStands from to l.instance → l.instance ≡ k.instance → a.pin < b.pin → (span_at netlist a).to ≤ (span_at netlist b).from
one_instance netlist a b m n from to l k h same less =
    let is_second = ap (λ (i : Instance). slice_get i.pins b.pin) same ∙ k.is_pin in
    let two = chain_two PinStands l.instance.pins a.pin b.pin l.pin k.pin h.start h.end h.holds less l.is_pin is_second in
    let x = pin_inside netlist a m h.start two.mid l two.first in
    let y = pin_inside netlist b n two.mid h.end k two.second in
    omega (arith, x.before, y.behind)

pub spans_rise : StandInOrder → ItemsStandAtStart → SpansRise
spans_rise order law text netlist a b d (m, l) (n, k) (inl less) =
    let all = all_stand order law text netlist d in
    let two =
    chain_two InstanceStands netlist.instances a.instance b.instance l.instance k.instance netlist.head_end netlist.end_at
    all.instances less l.is_instance k.is_instance in
    let x = instance_inside netlist a m netlist.head_end two.mid l two.first in
    let y = instance_inside netlist b n two.mid netlist.end_at k two.second in
    omega (arith, x.before, y.behind)
spans_rise order law text netlist a b d (m, l) (n, k) (inr (same, less)) =
    let all = all_stand order law text netlist d in
    let one = chain_at InstanceStands netlist.instances a.instance l.instance netlist.head_end netlist.end_at all.instances l.is_instance in
    let both : l.instance ≡ k.instance = same_Some l.instance k.instance (sym l.is_instance ∙ ap (slice_get netlist.instances) same ∙ k.is_instance) in
    one_instance netlist a b m n netlist.head_end netlist.end_at l k one both less
