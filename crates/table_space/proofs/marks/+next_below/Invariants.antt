use Rattle.table_space.proofs.marks.+next_below.Given as goal

abbrev pub decreases-next_below : goal.decreases-next_below
decreases-next_below l = l.width
