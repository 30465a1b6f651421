use Rattle.std.proofs.Common.{◌<◌, ◌∙◌, ℕ, List, ap, length, sym, subst}
use Rattle.std.specs.Prelude.{unwrap_or}
use Rattle.std.specs.List.{All}
use Rattle.ver_module.specs.Netlists.{AreWithin, Instance, Net, nets_in}
use Rattle.ver_file.specs.Netlists.{assigned_of, instances_of}
use Rattle.ver_file.proofs.LinkLemmas.{assigned_within, links_within}
use Rattle.ver_file.proofs.NetLemmas.{table_nets}
use Rattle.ver_file.proofs.read.assemble.Goals as goal

pub new-requires-clause-links : goal.new-requires-clause-links
new-requires-clause-links c =
    subst (λ (is : List Instance). AreWithin (length (nets_in c.args.nets)) is) (sym (c.requires.body.instances c.requires.flawless))
    (subst (λ (nets : List Net). AreWithin (length nets) (instances_of c.args.text.now)) (sym (table_nets c.args.text.now c.args.nets c.requires.nets)) (links_within c.args.text.now c.requires.flawless))

pub new-requires-clause-assigned : goal.new-requires-clause-assigned
new-requires-clause-assigned c =
    subst (λ (ns : List ℕ). All (λ n. n < length (nets_in c.args.nets)) ns) (sym (c.requires.body.assigned c.requires.flawless))
    (subst (λ (nets : List Net). All (λ n. n < length nets) (assigned_of c.args.text.now)) (sym (table_nets c.args.text.now c.args.nets c.requires.nets)) (assigned_within c.args.text.now c.requires.flawless))

pub returns : goal.returns
returns c =
    let nets = table_nets c.args.text.now c.args.nets c.requires.nets in
    c.new.ensures
    ∙ (λ i. record {
      name = c.in_ok-name.ensures i;
      nets = nets i;
      instances = c.requires.body.instances c.requires.flawless i;
      assigned = c.requires.body.assigned c.requires.flawless i;
      head_end = c.head_end.ensures i;
      end_at = (c.unwrap_or.ensures ∙ ap (λ end. unwrap_or end 0) c.requires.body.end) i;
    })
