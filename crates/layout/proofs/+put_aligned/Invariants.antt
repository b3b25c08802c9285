use Rattle.layout.proofs.+put_aligned.Given as goal

abbrev pub decreases-put_aligned : goal.decreases-put_aligned
decreases-put_aligned l = l.columns
