use Rattle.spef_patch_laws.proofs.NetNoteLemmas.{read_notes, named_notes}
use Rattle.spef_patch_laws.proofs.laws.read_notes_are_quiet.Goals as goal

pub returns-clause-net : goal.returns-clause-net
returns-clause-net c = read_notes

pub returns-clause-named : goal.returns-clause-named
returns-clause-named c = named_notes
