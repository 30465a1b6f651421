use Rattle.std.proofs.Common.{refl, subst}
use Rattle.vg_split.specs.Conditions.{IsSplit}
use Rattle.vg_split.proofs.StageNetLemmas.{printed_net, printed_section, printed_stage}
use Rattle.vg_split.proofs.stage.write_stage.Goals as goal

pub write_section-requires : goal.write_section-requires
write_section-requires c =
    let chars = c.args.header.now.chars in
    let x = c.args.x.now in
    let k = c.args.stage in
    let room = c.make_parts.new.room in
    let is = subst IsSplit c.x.view_is c.x.invariant.0 in
    let are = c.in_ok-make_parts.ensures.parts in (
      printed_net chars x k room.scratch.places.items room.scratch.name.items room.nodes room.conns.items room.cap_nodes.items room.ress.items is c.requires.stage are,
      printed_section chars x k room.scratch.places.items room.scratch.name.items room.nodes room.conns.items room.cap_nodes.items room.ress.items is c.requires.stage are _
          c.deref.ensures.value c.charge_of.ensures refl c.deref-2.ensures.value c.deref-3.ensures.value c.deref-4.ensures.value,
    )

pub returns-clause-said : goal.returns-clause-said
returns-clause-said c =
    let chars = c.args.header.now.chars in
    let x = c.args.x.now in
    let k = c.args.stage in
    let room = c.make_parts.new.room in
    let is = subst IsSplit c.x.view_is c.x.invariant.0 in
    let are = c.in_ok-make_parts.ensures.parts in
    let net = printed_net chars x k room.scratch.places.items room.scratch.name.items room.nodes room.conns.items room.cap_nodes.items room.ress.items is c.requires.stage are in
    record {
      net = net;
      is_stage = printed_stage chars x k room.scratch.places.items room.scratch.name.items room.nodes room.conns.items room.cap_nodes.items room.ress.items is c.requires.stage are;
      is = c.in_ok-write_section.ensures.written net
          (printed_section chars x k room.scratch.places.items room.scratch.name.items room.nodes room.conns.items room.cap_nodes.items room.ress.items is c.requires.stage are _
          c.deref.ensures.value c.charge_of.ensures refl c.deref-2.ensures.value c.deref-3.ensures.value c.deref-4.ensures.value);
    }
