use Rattle.std.proofs.Common.{◌≡◌, ◌≢◌, length, refl, arith}
use Rattle.cand_pool.specs.Links.{none}
use Rattle.cand_pool.specs.Pools.{slots_of}
use Rattle.cand_pool.proofs.LoadLaws.{loading_start, loading_next, loading_fewer, loadable, loading_end, loading_others, loading_spare, held_slots, left_none}
use Rattle.cand_pool.proofs.pool.Pool.load.Goals as goal

pub slots-init : goal.slots-init
slots-init g c =
    let live = c.requires.live in
    let e = c.first_slot-slot.ensures.slot in
    record {
      loading = rw e (loading_start c.args.c c.args.self.now c.args.list.now.ends.first _ _ c.first_slot-slot.ensures.pool.all live);
      steps = rw e refl;
    }

pub load_slot-slot-requires-clause-there : goal.load_slot-slot-requires-clause-there
load_slot-slot-requires-clause-there g c =
    let some : c.slots.slot ≢ none = omega (arith, c.slots-test) in
    (loadable c.args.c c.args.self.now _ c.slots.self c.slots.slot some c.slots.invariant.loading c.requires.modest).low

pub load_slot-slot-requires-clause-room : goal.load_slot-slot-requires-clause-room
load_slot-slot-requires-clause-room g c =
    let some : c.slots.slot ≢ none = omega (arith, c.slots-test) in
    (loadable c.args.c c.args.self.now _ c.slots.self c.slots.slot some c.slots.invariant.loading c.requires.modest).room

pub slots-smaller : goal.slots-smaller
slots-smaller g c =
    let some : c.slots.slot ≢ none = omega (arith, c.slots-test) in
    let done = c.load_slot-slot.ensures in
    let fewer = loading_fewer _ _ _ c.slots.self _ c.slots.slot _ c.requires.live.few some c.slots.invariant.loading done.loaded done.after in
    omega arith

pub slots-preserved : goal.slots-preserved
slots-preserved g c =
    let some : c.slots.slot ≢ none = omega (arith, c.slots-test) in
    let done = c.load_slot-slot.ensures in
    let fewer = loading_fewer _ _ _ c.slots.self _ c.slots.slot _ c.requires.live.few some c.slots.invariant.loading done.loaded done.after in
    let step = done.step in
    let total = c.slots.invariant.steps in
    record {
      loading = loading_next _ _ _ c.slots.self _ c.slots.slot _ c.requires.live.few some c.slots.invariant.loading done.loaded done.after;
      steps = omega arith;
    }

pub returns : goal.returns
returns g c =
    let e : c.slots.slot ≡ none = omega (arith, c.slots-test) in
    let w = c.slots.invariant.loading in
    record {
      list = λ xs h. loading_end c.args.c c.args.self.now _ _ xs c.slots.self c.slots.slot e h w;
      same = refl;
      others = loading_others c.args.c c.args.self.now _ _ _ c.slots.self c.slots.slot c.first_slot-slot.ensures.pool c.requires.live w;
      spare = loading_spare c.args.c c.args.self.now _ c.slots.self c.slots.slot w;
      steps = λ xs h.
          let n : length (slots_of c.args.self.now c.args.list.now.ends.first) ≡ length xs = held_slots c.args.self.now _ _ xs h in
          let z : length (slots_of c.slots.self c.slots.slot) ≡ 0 = left_none _ _ _ _ _ e c.requires.live.few w in
          let total = c.slots.invariant.steps in
          omega arith;
    }
