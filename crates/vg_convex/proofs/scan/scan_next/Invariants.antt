use Rattle.vg_convex.proofs.scan.scan_next.Given as goal

abbrev pub ghost-scan : goal.ghost-scan
ghost-scan g a = g.xs
