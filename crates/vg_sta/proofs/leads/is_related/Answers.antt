use Rattle.std.proofs.Common.{◌∙◌, ap}
use Rattle.std.specs.Option.{is_some}
use Rattle.std.specs.Str.{bytes_eq}
use Rattle.vg_sta.proofs.ListLemmas.{placed}
use Rattle.vg_sta.proofs.leads.is_related.Goals as goal

pub returns : goal.returns
returns c = c.is_some.ensures ∙ ap is_some c.find.ensures ∙ placed (bytes_eq c.args.pin.now) c.args.related.now
