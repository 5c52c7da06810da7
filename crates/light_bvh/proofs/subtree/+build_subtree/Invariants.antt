-- The measure is the stretch's length: each half is shorter. Assumes nothing.
use lib.ListN.{length}
use Rattle.light_bvh.proofs.subtree.+build_subtree.Given as goal

abbrev pub decreases-build_subtree : goal.decreases-build_subtree
decreases-build_subtree l = length l.handles.now
