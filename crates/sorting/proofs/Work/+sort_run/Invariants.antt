use Rattle.sorting.proofs.Work.+sort_run.Given as goal

abbrev pub decreases-sort_run : goal.decreases-sort_run
decreases-sort_run l = l.k
