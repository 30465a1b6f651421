-- The lines that tell what is found in a certificate of a net.
use Rattle.std.specs.Prelude.{ℕ, ℤ, List, ◌++◌, codes, decimal, Option, Some, None}
use Rattle.std.specs.Fmt.{signed_decimal}
use Rattle.vg_scan.specs.declared.fault.LineFault.{LineFault}
use Rattle.vg_scan.specs.declared.name.NetNames.{NetNames}
use Rattle.vg_scan.specs.declared.name.NodeName.{NodeName}
use Rattle.vg_cert.specs.Written.{slack_word}
use Rattle.vg_cert.specs.declared.fault.CertKind.{CertKind}
use Rattle.vg_cert.specs.declared.fault.CertKind.TheVariants.{Form, Number, Node, Cell, Order, Memory}
use Rattle.vg_check.specs.declared.verdict.Verdict.{Verdict}
use Rattle.vg_check.specs.declared.verdict.Verdict.TheVariants.{Yes, Illegal, WrongPolarity, WrongSlack, Uncovered, NotBest}
use Rattle.vg_design.specs.Nets.{name_at}
use Rattle.vg_report.specs.Faults.{number_kind}
use Rattle.vg_report.specs.Reports.{printed_node}

-- the names that a certificate of the net of this name speaks of
abbrev pub names_for : List ℕ → List (List ℕ) → List NodeName → NetNames
names_for name cells nodes = record { net = name; nodes = nodes; cells = cells }

-- `net NAME certificate `, before the rest of the line
abbrev pub certificate_line : NetNames → List ℕ → List ℕ
certificate_line names rest = codes "net " ++ (names.net ++ (codes " certificate " ++ (rest ++ codes "\n")))

-- ---- a verdict

-- how the node of this number is printed
abbrev pub node_text : NetNames → ℕ → List ℕ
node_text names v = printed_node (name_at names.nodes v)

-- `valid slack S`, with S in zs, or `valid none`
abbrev pub valid_text : Option ℤ → List ℕ
valid_text None = codes "valid none"
valid_text (Some slack) = codes "valid slack " ++ signed_decimal slack

-- `valid ..`, `illegal NODE`, `polarity NODE`, `slack WRITTEN REAL`, `uncovered NODE` or `bound WRITTEN BOUND`, with
-- times in zs; the slack is the certificate's
abbrev pub verdict_text : NetNames → Option ℤ → Verdict → List ℕ
verdict_text names slack Yes = valid_text slack
verdict_text names slack (Illegal v) = codes "illegal " ++ node_text names v
verdict_text names slack (WrongPolarity w) = codes "polarity " ++ node_text names w
verdict_text names slack (WrongSlack written real) =
    codes "slack " ++ (signed_decimal written ++ (codes " " ++ signed_decimal real))
verdict_text names slack (Uncovered v) = codes "uncovered " ++ node_text names v
verdict_text names slack (NotBest written bound) =
    codes "bound " ++ (slack_word written ++ (codes " " ++ signed_decimal bound))

abbrev pub verdict_line : NetNames → Option ℤ → Verdict → List ℕ
verdict_line names slack verdict = certificate_line names (verdict_text names slack verdict)

-- ---- a fault

abbrev pub cert_kind : CertKind → List ℕ
cert_kind Form = codes "Form"
cert_kind (Number fault) = codes "Number " ++ number_kind fault
cert_kind Node = codes "Node"
cert_kind Cell = codes "Cell"
cert_kind Order = codes "Order"
cert_kind Memory = codes "Memory"

-- `fault KIND line L`
abbrev pub fault_text : LineFault CertKind → List ℕ
fault_text fault = codes "fault " ++ (cert_kind fault.kind ++ (codes " line " ++ decimal fault.line))

abbrev pub fault_line : NetNames → LineFault CertKind → List ℕ
fault_line names fault = certificate_line names (fault_text fault)
