-- Trees that stand in words: a tree stands where it is flattened (`stands_flat`), so an accepted build's tree stands in
-- its words (`accepted_stands`), and its root and the root's record are read at its place (`stands-root`). Assumes
-- nothing.
use Rattle.std.specs.Prelude.{ℕ, ◌+◌, ◌*◌, ◌-◌, ◌≤◌, ◌<◌, ◌≡◌, refl, List, [], ◌++◌, length}
use Rattle.std.proofs.Common.{subst, append-nil, arith, lt-ltb}
use Rattle.std.proofs.Math.Option.{some}
use Rattle.light_rows.specs.Nodes.{interior, invalid_index, node_place, node_list}
use Rattle.light_rows.specs.Tree.{Tree, leaf, fork, bounds, leaves, leaf_handles, right_place, flatten, tree_words}
use Rattle.light_rows.specs.Laws.TreeLaws.{leaves-pos, root, root-at, root-bounds-at, left-place, right-place}
use Rattle.light_bvh.specs.Build.{LightBVH, nodes_written}
use Rattle.tree_laws.specs.Laws.AcceptedTree.{Parts, accepted-sound, labels-fit, places-fit, nodes-are}
use Rattle.tree_laws.specs.Laws.PlaceLaws.{RecordsFit, sound-records, head_end, LabelsFit}
use Rattle.tree_laws.specs.Laws.PlaceLaws.{Reads, in_left, in_right}
use Rattle.words.proofs.ListLaws.{all-parts}
use Rattle.tree_laws.specs.AsCoded.StandingTree.{Stands}

-- the root and its record
pub stands-root : (ws : List ℕ) (at p : ℕ) (t : Tree) → Stands ws at p t → Reads ws at (root at p t, bounds t)
stands-root ws at p (leaf h b) s = s
stands-root ws at p (fork b l r) s = s.0

-- a tree that is flattened into words stands there
pub stands_flat : (t : Tree) (ps ss : List ℕ) (at p : ℕ) → length ps ≡ node_place at
    → at + (2 * leaves t - 1) ≤
    head_end
    → LabelsFit t → RecordsFit t
    → Stands (ps ++ flatten at p t ++ ss) at p t
unfolding leaves leaf_handles
stands_flat (leaf h b) ps ss at p place low labels fit = (
  root-at ps ss at at p (leaf h b) place (lt-ltb h head_end labels.0),
  root-bounds-at ps ss at at p (leaf h b)
      place fit,
)
stands_flat (fork b l r) ps ss at p place low labels fit =
    let more-l = leaves-pos l in
    let more-r = leaves-pos r in
    let (labels-l, labels-r) = all-parts (λ (h : ℕ). h < head_end) (leaf_handles l) (leaf_handles r) labels in
    let n = interior (at + 1) (right_place at l) p in
    let t = fork b l r in (
      (
        root-at ps ss at at p t place (lt-ltb (at + 1) head_end (omega arith)),
        root-bounds-at ps ss at at p t place
            fit.0,
      ),
      subst (λ (ws : List ℕ). Stands ws (at + 1) at l) (in_left ps ss at p b l r)
          (stands_flat l (ps ++ node_list n b) (flatten (right_place at l) at r ++ ss) (at + 1) at
          (left-place ps at n b place) (omega arith) labels-l fit.1),
      subst (λ (ws : List ℕ). Stands ws (right_place at l) at r) (in_right ps ss at p b l r)
          (stands_flat r (ps ++ node_list n b ++ flatten (at + 1) at l) ss (right_place at l) at
          (right-place ps at n b place l) (omega arith) labels-r fit.2),
    )

-- an accepted build's tree stands in its words
pub accepted_stands : (ws : List ℕ) (b : LightBVH) (t : Tree) → Parts ws b → b.tree ≡ some t
    → Stands (nodes_written b) 0 invalid_index t
accepted_stands ws b t parts is =
    rw (nodes-are ws b t parts is)
    (subst (λ (ws : List ℕ). Stands ws 0 invalid_index t) (append-nil (tree_words t))
    (stands_flat t [] [] 0 invalid_index refl (omega (arith, places-fit ws b t parts is)) (labels-fit ws b t parts is)
    (sound-records t (accepted-sound ws b t parts is))))
