-- Draws and chances by name over an accepted build. A draw is the walk over the build's tree with the query's weights
-- (`draw-walk`), without a tree it draws no lamp (`draw-nothing`); where it draws a lamp, the chance by name enters the
-- same nodes in reverse and is given (`name-walk`). Assumes nothing.
use Rattle.std.specs.Prelude.{ℕ, zero, suc, ◌*◌, ◌-◌, ◌/◌, ◌%◌, ◌≤◌, ◌<◌, ◌≡◌, refl, Bool, true, false, ◌&&◌, List}
use Rattle.std.specs.Prelude.{[], ◌∷◌, ◌++◌, T, Float, length}
use Rattle.std.proofs.Common.{ap, sym, ◌∙◌, append-nil, arith, le-ltb, eq-eqb, ne_eqb}
use Rattle.std.proofs.Math.Option.{none, some, none-ne-some}
use Rattle.std.specs.Float.Ieee.{le}
use Rattle.ieee.specs.Choose.{fmin}
use Rattle.ieee.specs.Single.{zerof, onef}
use Rattle.words.specs.Answers.{given, ◌then◌}
use Rattle.words.specs.Limits.{max_lamps}
use Rattle.words.proofs.AnswerLaws.{given_injective}
use Rattle.light_bounds.specs.declared.importance.Query.{Query}
use Rattle.light_rows.specs.Nodes.{leaf as leaf_node, invalid_index, node_at, node_count}
use Rattle.light_rows.specs.Tree.{Tree}
use Rattle.light_rows.specs.Laws.TreeLaws.{leaves-pos}
use Rattle.light_bvh.specs.Build.{LightBVH, nodes_written}
use Rattle.light_sampler.specs.Fork.{most}
use Rattle.light_sampler.specs.Sampler.{sample_check, from_root, sample_walk, pmf_check, leaf_of, from_leaf, pmf_walk}
use Rattle.light_sampler.specs.Walks.{Walked, Draw, descend, ascend}
use Rattle.tree_laws.specs.Laws.AcceptedTree.{Parts, accepted-none, accepted-leaves, places-fit}
use Rattle.tree_laws.specs.Laws.ByteLaws.{nodes-words, table-words-back, table-bytes, nodes-counted}
use Rattle.light_runs.specs.DemandWords.{FromZeroToOne, nodes, table, Draws}
use Rattle.tree_laws.specs.TreeWords.{place_of}
use Rattle.words.specs.Lists.{reversed}
use Rattle.light_runs.specs.Laws.DownLaws.{leaves-weighed, descend-walk}
use Rattle.tree_laws.specs.Laws.NodeLaws.{powered-leaf, leaf-powered}
use Rattle.tree_laws.specs.Laws.StandingLaws.{accepted_stands}
use Rattle.light_runs.specs.Laws.UpLaws.{ascend-walk, rises_standing, walk-length}
use Rattle.light_runs.specs.AsCoded.WeightedTree.{walk, weighed}

-- ---- the draw

both : (a b : Bool) → T a → T b → a && b ≡ true
both true true h k = refl
both true false h k = absurd k
both false b h k = absurd h

pub check_draw : (ns : List ℕ) (n : ℕ) (u : Float) → node_count ns ≡ given n → FromZeroToOne u
    → sample_check ns u ≡ given n
unfolding sample_check ◌then◌
check_draw ns n u counted unit = rw (counted, both (le zerof u) (le u onef) unit.from_zero unit.to_one)

pub from-root : (ws : List ℕ) (q : Query) (u : Float) (n : ℕ) → 0 < n
    → from_root ws q u n ≡ descend ws q n 0 onef (fmin u most)
unfolding from_root
from-root ws q u zero h = absurd (omega arith)
from-root ws q u (suc n) h = refl

module _ (ws : List ℕ) (b : LightBVH) (parts : Parts ws b) (q : Query) (u : Float) (unit : FromZeroToOne u) where
  set_out : sample_walk (nodes b) q u ≡ from_root (nodes_written b) q u (2 * b.k - 1)
  unfolding sample_walk
  set_out =
      rw (check_draw (nodes b) (2 * b.k - 1) u (nodes-counted ws b parts) unit, nodes-words ws b parts)

  -- without a tree
  pub draw-nothing : b.tree ≡ none → (h : ℕ) → Draws b q u h → ⊥
  unfolding from_root
  draw-nothing is h (c, d) =
      let e : 2 * b.k - 1 ≡ 0 = omega (arith, accepted-none ws b parts is) in
      let out : (sample_walk (nodes b) q u).outcome ≡ given none = rw (set_out, e) in
      none-ne-some (h, c) (given_injective (sym out ∙ d))

  -- with one
  pub draw-walk : (t : Tree) → b.tree ≡ some t → sample_walk (nodes b) q u ≡ walk 0 (weighed q t) onef (fmin u most)
  draw-walk t is =
      set_out ∙ from-root (nodes_written b) q u (2 * b.k - 1)
      (omega (arith, accepted-leaves ws b t parts is, leaves-pos t))
      ∙ descend-walk (nodes_written b) q t 0 invalid_index (2 * b.k - 1) onef (fmin u most)
      (accepted_stands ws b t parts is)
      (omega (arith, accepted-leaves ws b t parts is, leaves-pos t))

-- ---- the chance by name

pub check_name : (ns ts : List ℕ) (n m : ℕ) → node_count ns ≡ given n → length ts ≡ 4 * m → m ≤ max_lamps
    → pmf_check ns ts ≡ given n
unfolding pmf_check ◌then◌
check_name ns ts n m counted words few =
    rw (le-ltb max_lamps (length ts / 4) (omega arith), counted, eq-eqb (length ts % 4) 0 (omega arith))

-- the walk up from the lamp's leaf
named_by : (ws : List ℕ) (b : LightBVH) → Parts ws b → (q : Query) (h i : ℕ) (e : Float) (is : List ℕ)
    → place_of b h ≡ i
    → (i ≡ invalid_index → ⊥)
    → ascend (nodes_written b) q (2 * b.k - 1) i onef ≡ record { outcome = given e; places = is }
    → pmf_walk (nodes b) (table b) q h ≡ record { outcome = given e; places = is }
unfolding pmf_walk leaf_of from_leaf
named_by ws b parts q h i e is place known up =
    rw (
      check_name (nodes b) (table b) (2 * b.k - 1) b.rows (nodes-counted ws b parts) (table-bytes ws b parts)
          parts.few,
      nodes-words ws b parts,
      table-words-back ws b parts,
      place,
      ne_eqb i invalid_index known,
    )
    up

-- what a draw that finds the lamp h tells of its chance by name
pub record Named (b : LightBVH) (q : Query) (h : ℕ) (drawn : List ℕ) : Type 0 where
  pub chance : Float
  pub before : List ℕ
  pub named : pmf_walk (nodes b) (table b) q h ≡ record { outcome = given chance; places = reversed drawn }
  pub last-is : reversed drawn ≡ place_of b h ∷ before
  pub above : ℕ
  pub node-is : node_at (nodes_written b) (place_of b h) ≡ given (leaf_node h above)

module _ (ws : List ℕ) (b : LightBVH) (parts : Parts ws b) (t : Tree) (is : b.tree ≡ some t) (q : Query) (u : Float)
    (unit : FromZeroToOne u) where
  pub name-walk : (h : ℕ) → Draws b q u h → Named b q h (sample_walk (nodes b) q u).places
  name-walk h (c, d) =
      let down = draw-walk ws b parts q u unit t is in
      let drawn = (walk 0 (weighed q t) onef (fmin u most)).places in
      let few = leaves-pos t in
      let k-is = accepted-leaves ws b t parts is in
      let up =
      ascend-walk (nodes_written b) q t 0 invalid_index onef (fmin u most) h c [] (accepted_stands ws b t parts is)
      (omega (arith, places-fit ws b t parts is))
      (rises_standing (nodes_written b) q 0 t (accepted_stands ws b t parts is))
      (ap (λ (w : Walked Draw). w.outcome) (sym down) ∙ d) in
      let (low, power, place) = leaf-powered ws b parts up.place h up.above up.node-is in
      let (p, small, _) = powered-leaf ws b parts h low power in
      let (e, climbed) =
      up.climbs (2 * b.k - 1) onef
      (omega (arith, walk-length 0 (weighed q t) onef (fmin u most), leaves-weighed q t)) in
      let known : up.place ≡ invalid_index → ⊥ =
      λ (e : up.place ≡ invalid_index). omega (arith, places-fit ws b t parts is) in
      let same : reversed drawn ++ [] ≡ reversed (sample_walk (nodes b) q u).places =
      append-nil (reversed drawn) ∙ ap (λ (w : Walked Draw). reversed w.places) (sym down) in
      record {
        chance = e;
        before = up.before;
        named =
            named_by ws b parts q h up.place e (reversed (sample_walk (nodes b) q u).places) place known
            (climbed ∙ ap (λ (is : List ℕ). record { outcome = given e; places = is }) same);
        last-is =
            ap (λ (w : Walked Draw). reversed w.places) down ∙ up.last-is ∙ ap (λ (i : ℕ). i ∷ up.before)
            (sym place);
        above = up.above;
        node-is = rw place up.node-is;
      }
