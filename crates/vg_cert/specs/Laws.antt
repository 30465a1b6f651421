-- What is written is read again.
use Rattle.elmore.specs.declared.problem.Problem.{Problem}
use Rattle.vg_scan.specs.declared.name.NetNames.{NetNames}
use Rattle.vg_cert.specs.declared.certificate.Certificate.{Certificate}
use Rattle.vg_cert.specs.Fits.{Fits}
use Rattle.vg_cert.specs.Lines.{lines}
use Rattle.vg_cert.specs.Names.{AreNamesOf}
use Rattle.vg_cert.specs.Faults.{IsFaultless}
use Rattle.vg_cert.specs.Denoted.{Denotes}
use Rattle.vg_cert.specs.Written.{text_of}

-- the text of a certificate has no fault
abbrev pub TextsAreFaultless : Type 0
TextsAreFaultless = (p : Problem) (names : NetNames) (cert : Certificate) → AreNamesOf p names → Fits p cert
    → IsFaultless p names (text_of p names cert)

-- and denotes that certificate
abbrev pub TextsDenote : Type 0
TextsDenote = (p : Problem) (names : NetNames) (cert : Certificate) → AreNamesOf p names → Fits p cert
    → Denotes p names (lines (text_of p names cert)) cert
