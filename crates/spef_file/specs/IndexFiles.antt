-- What an index shows of its file.
use Rattle.spef_file.specs.declared.spef_index.SpefIndex.{SpefIndex}
use Rattle.spef_file.specs.Files.{File}
use Rattle.spef_file.specs.Views.{heads_in}

abbrev pub file_of : SpefIndex → File
file_of index =
    record { chars = index.header.chars; c_places = index.header.c_places; r_places = index.header.r_places; names = index.map; nets = heads_in index.sections }
