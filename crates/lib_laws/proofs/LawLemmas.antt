-- The laws of a text's statements.
use Rattle.std.proofs.Common.{sym}
use Rattle.lib_text.specs.Groups.{group_of}
use Rattle.lib_laws.specs.Laws.{InOrder, NamesAreOwn, GroupIsInside, FoundInside, GroupsInside}
use Rattle.lib_laws.proofs.LawSteps.{names_rise}
use Rattle.lib_laws.proofs.LawOwnNames.{own_names}
use Rattle.lib_laws.proofs.LawInside.{group_inside, found_in, groups_found}

pub in_order : InOrder
in_order text s after (before, e) = names_rise text before s after e

pub are_own : NamesAreOwn
are_own text s after is (before, e) = own_names text is before s after e

pub is_inside : GroupIsInside
is_inside text head after (before, e) own = group_inside text before head after e own

pub found_inside : FoundInside
found_inside text head after stand own form name =
    sym (found_in (group_of text head after) name form after (is_inside text head after stand own))

pub groups_inside : GroupsInside
groups_inside text head after stand own name =
    sym (groups_found (group_of text head after) name after (in_order text head after stand) (is_inside text head after stand own))
