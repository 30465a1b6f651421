-- What lines say does not depend on the nets of the file.
use Rattle.std.proofs.Common.{◌≡◌, ℕ, List, [], ◌∷◌, ap, refl, ◌∙◌, codes, Err}
use Rattle.std.specs.Prelude.{if◌then◌else◌}
use Rattle.std.specs.Str.{bytes_eq}
use Rattle.vg_scan.specs.Lines.{words, Line}
use Rattle.spef_file.specs.Files.{File}
use Rattle.spef_file.specs.Nets.{NetHead}
use Rattle.spef_nodes.specs.Names.{node_in, owner_in}
use Rattle.spef_net.specs.declared.net.ConnKind.{ConnKind}
use Rattle.spef_net.specs.declared.net.ConnKind.TheVariants.{Pin, Port}
use Rattle.spef_net.specs.declared.part.Part.{Part}
use Rattle.spef_net.specs.declared.part.Part.TheVariants.{Nowhere, Conns, Caps, Ress, Inducs}
use Rattle.spef_net.specs.declared.fault.NetKind.TheVariants.{Conn}
use Rattle.spef_net.specs.Laws.{OtherNetsCountNot}
use Rattle.spef_net.specs.Lines.{head_of}
use Rattle.spef_net.specs.Statements.{connection, star, conn_line, cap_line, res_line, statement_in, statement_or_opens, statement_of_words, statement_of, part_after, statements_from}

module _ (file : File) (nets : List NetHead) where
  abbrev other : File
  other = record file { nets = nets }

  same_connection : (kind : ConnKind) (line : List ℕ) (rest : Line) → connection other kind line rest ≡ connection file kind line rest
  unfolding node_in owner_in
  same_connection kind line [] = refl
  same_connection kind line (_ ∷ []) = refl
  same_connection kind line (_ ∷ _ ∷ _) = refl

  same_star : (line : List ℕ) (rest : Line) → star other line rest ≡ star file line rest
  unfolding node_in owner_in
  same_star line [] = refl
  same_star line (_ ∷ _) = refl

  same_conn_line : (line : List ℕ) (ws : Line) → conn_line other line ws ≡ conn_line file line ws
  unfolding conn_line
  same_conn_line line [] = refl
  same_conn_line line (tag ∷ rest) =
      ap (λ s. if bytes_eq tag (codes "*I") then s else (if bytes_eq tag (codes "*P") then connection other Port line rest else (if bytes_eq tag (codes "*N") then star other line rest else Err Conn))) (same_connection Pin line rest)
      ∙ ap (λ s. if bytes_eq tag (codes "*I") then connection file Pin line rest else (if bytes_eq tag (codes "*P") then s else (if bytes_eq tag (codes "*N") then star other line rest else Err Conn))) (same_connection Port line rest)
      ∙ ap (λ s. if bytes_eq tag (codes "*I") then connection file Pin line rest else (if bytes_eq tag (codes "*P") then connection file Port line rest else (if bytes_eq tag (codes "*N") then s else Err Conn))) (same_star line rest)

  same_cap_line : (ws : Line) → cap_line other ws ≡ cap_line file ws
  unfolding cap_line node_in owner_in
  same_cap_line [] = refl
  same_cap_line (_ ∷ []) = refl
  same_cap_line (_ ∷ _ ∷ []) = refl
  same_cap_line (_ ∷ _ ∷ _ ∷ []) = refl
  same_cap_line (_ ∷ _ ∷ _ ∷ _ ∷ []) = refl
  same_cap_line (_ ∷ _ ∷ _ ∷ _ ∷ _ ∷ _) = refl

  same_res_line : (ws : Line) → res_line other ws ≡ res_line file ws
  unfolding res_line node_in owner_in
  same_res_line [] = refl
  same_res_line (_ ∷ []) = refl
  same_res_line (_ ∷ _ ∷ []) = refl
  same_res_line (_ ∷ _ ∷ _ ∷ []) = refl
  same_res_line (_ ∷ _ ∷ _ ∷ _ ∷ []) = refl
  same_res_line (_ ∷ _ ∷ _ ∷ _ ∷ _ ∷ _) = refl

  same_in : (part : Part) (line : List ℕ) (ws : Line) → statement_in part other line ws ≡ statement_in part file line ws
  same_in Nowhere line ws = refl
  same_in Conns line ws = same_conn_line line ws
  same_in Caps line ws = same_cap_line ws
  same_in Ress line ws = same_res_line ws
  same_in Inducs line ws = refl

  same_words : (part : Part) (line : List ℕ) (ws : Line) → statement_of_words other part line ws ≡ statement_of_words file part line ws
  unfolding statement_of_words
  same_words part line [] = refl
  same_words part line (word ∷ rest) = ap (statement_or_opens (head_of (word ∷ rest))) (same_in part line (word ∷ rest))

  same_from : (part : Part) (ls : List (List ℕ)) → statements_from other part ls ≡ statements_from file part ls
  unfolding statements_from
  same_from part [] = refl
  same_from part (line ∷ ls) =
      ap (λ s. s ∷ statements_from other (part_after part s) ls) (same_words part line (words line))
      ∙ ap (λ ss. statement_of file part line ∷ ss) (same_from (part_after part (statement_of file part line)) ls)

pub other_nets_count_not : OtherNetsCountNot
other_nets_count_not file nets lines = same_from file nets Nowhere lines
