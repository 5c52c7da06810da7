-- Demand 3, of the definitions of build, draw and chance by name: what docs/REQUIREMENTS.md R8 says of it, a
-- field a sentence (`Demand3`), and that it holds of every block that build accepts (`demand_3`).
-- Beside it, in a planner's words: the u that draw a lamp are those from one float to another, perhaps none
-- (`u-from-to`). Demand 3 speaks of the nodes' words alone; of the whole tray that build leaves them in, with zeros
-- behind, draws and chances are the same where a lamp has power (`tray-same`), and 12 where none has (`tray-dark`).
-- DemandWords has the words of the sentences. Assumes nothing.
use Rattle.std.specs.Prelude.{ℕ, ◌*◌, ◌-◌, ◌≤◌, ◌<◌, ◌≡◌, refl, List, ◌⊎◌, ◌↔◌, T, Float, length, get_or}
use Rattle.std.proofs.Common.{sym, arith}
use Rattle.std.proofs.Math.Option.{Option, none, some}
use Rattle.std.specs.Float.Ieee.{le}
use Rattle.words.specs.Answers.{given, refused}
use Rattle.words.specs.LittleEndian.{bytes_of}
use Rattle.words.specs.Tray.{tray}
use Rattle.light_bounds.specs.declared.importance.Query.{Query}
use Rattle.light_rows.specs.Nodes.{leaf, interior, invalid_index, node_words, node_at}
use Rattle.light_rows.specs.Tree.{Tree}
use Rattle.light_bvh.specs.Build.{LightBVH, is_powered, build_light_bvh, nodes_reserve, nodes_written, table_written}
use Rattle.light_sampler.specs.Sampler.{sample_walk, sample, pmf_walk, pmf}
use Rattle.tree_laws.specs.Laws.AcceptedTree.{Parts, accepted-parts, accepted-none, handles-count}
use Rattle.light_runs.specs.Laws.AcceptedRuns.{unbroken, leaf-order, upward, from-one-to_another}
use Rattle.light_runs.specs.DemandWords.{FromZeroToOne, InOrder, nodes, table, Draws, draw_enters, name_enters}
use Rattle.tree_laws.specs.TreeWords.{place_of, powered_below, reached, places_from, HoldsChildren}
use Rattle.words.specs.Lists.{reversed}
use Rattle.light_runs.specs.Laws.WholeTray.{tray-is, draw-same, name-same, dark-tray}
use Rattle.tree_laws.specs.Laws.NodeLaws.{k-counted, node-words, places, powered-leaf, leaf-powered, table-words}
use Rattle.tree_laws.specs.Laws.NodeLaws.{other-lamps, boxes}

-- of a block's words and what build makes of them
pub record Demand3 (ws : List ℕ) (b : LightBVH) : Type 0 where
  -- for one point and one normal, of any bits: each lamp has one unbroken run of u values
  pub unbroken : (q : Query) (u v w : Float) → InOrder u v → InOrder v w → (h : ℕ) → Draws b q u h → Draws b q w h
      → Draws b q v h
  -- the runs are in leaf order, by place
  pub leaf-order : (q : Query) (u w : Float) → InOrder u w → (h i : ℕ) → Draws b q u h → Draws b q w i → (h ≡ i → ⊥)
      → place_of b h < place_of b i
  -- a lamp's upward walk meets exactly the draw's nodes, in reverse, and its chance is given
  pub upward : (q : Query) (u : Float) → FromZeroToOne u → (h : ℕ) → Draws b q u h
      → (name_enters b q h ≡ reversed (draw_enters b q u)) × (c : Float) × (pmf (nodes b) (table b) q h ≡ given c)
  -- the lamps are the block's records
  pub lamps : b.rows ≡ get_or ws 0 0
  -- k is the number of lamps with a phi above 0, and there are 2 k - 1 nodes, none for k = 0
  pub k-counted : b.k ≡ powered_below ws b.rows
  pub node-words : length (nodes_written b) ≡ node_words * (2 * b.k - 1)
  -- node 0 and all that child words reach from it, however deep, are at the places 0 to 2 k - 2, each once
  pub places : 0 < b.k → (n : ℕ) → b.k ≤ n → reached (nodes_written b) n 0 ≡ places_from 0 (2 * b.k - 1)
  -- each powered lamp is a leaf, at the place that the handle table has for it
  pub powered-leaf : (h : ℕ) → h < b.rows → T (is_powered ws h)
      → (p : ℕ) × (place_of b h < 2 * b.k - 1) × (node_at (nodes_written b) (place_of b h) ≡ given (leaf h p))
  -- each leaf is a powered lamp, and stands at that place, so once
  pub leaf-powered : (i h p : ℕ) → node_at (nodes_written b) i ≡ given (leaf h p)
      → (h < b.rows) × T (is_powered ws h) × (place_of b h ≡ i)
  -- the handle table has a word a lamp, ffffffff for every other one
  pub table-words : length (table_written b) ≡ b.rows
  pub other-lamps : (h : ℕ) → (T (is_powered ws h) → ⊥) → place_of b h ≡ invalid_index
  -- each fork's box holds its children's
  pub boxes : (i l r p : ℕ) → node_at (nodes_written b) i ≡ given (interior l r p)
      → HoldsChildren (nodes_written b) i l
      r

-- of every light record count and block that build accepts, whatever was lent for nodes, table and work
module _ (lights : ℕ) (ws : List ℕ) (nodes_lent table_lent work_lent : ℕ) (b : LightBVH)
    (accepted : build_light_bvh lights ws nodes_lent table_lent work_lent ≡ given b) where
  pub demand_3 : Demand3 ws b
  demand_3 =
      let parts = accepted-parts lights ws nodes_lent table_lent work_lent b accepted in
      record {
        unbroken = unbroken ws b parts;
        leaf-order = leaf-order ws b parts;
        upward = upward ws b parts;
        lamps = sym (handles-count ws b.rows parts.labelled);
        k-counted = k-counted ws b parts;
        node-words = node-words ws b parts;
        places = places ws b parts;
        powered-leaf = powered-leaf ws b parts;
        leaf-powered = leaf-powered ws b parts;
        table-words = table-words ws b parts;
        other-lamps = other-lamps ws b parts;
        boxes = boxes ws b parts;
      }

  -- For one point and one normal, no u draws the lamp, or there is a first u that does and a last one, and all between
  -- them do.
  pub u-from-to : (q : Query) (h : ℕ)
      → ((u : Float) → FromZeroToOne u → Draws b q u h → ⊥)
      ⊎ ((first : Float) × (last : Float) × FromZeroToOne first × FromZeroToOne last
      × ((u : Float) → FromZeroToOne u → Draws b q u h ↔ (T (le first u) × T (le u last))))
  u-from-to = from-one-to_another ws b (accepted-parts lights ws nodes_lent table_lent work_lent b accepted)

  -- what build leaves of a node tray that is just the reserve of the block's lamps
  abbrev left : List ℕ → List ℕ
  left before = tray nodes_written (nodes_reserve b.rows) (given b) before

  module _ (before : List ℕ) (reserved : length before ≡ nodes_reserve b.rows) (q : Query) where
    -- For k above 0 a draw, and a chance by name, over the whole tray are those over its first 16 (2 k - 1) words, with
    -- the places that they enter.
    pub tray-same : 0 < b.k
        → ((u : Float) → sample_walk (bytes_of (left before)) q u ≡ sample_walk (nodes b) q u)
        × ((h : ℕ) → pmf_walk (bytes_of (left before)) (table b) q h ≡ pmf_walk (nodes b) (table b) q h)
    tray-same lit = go b.tree refl
      where
        parts : Parts ws b
        parts = accepted-parts lights ws nodes_lent table_lent work_lent b accepted

        go : (o : Option Tree) → b.tree ≡ o
            → ((u : Float) → sample_walk (bytes_of (left before)) q u ≡ sample_walk (nodes b) q u)
            × ((h : ℕ) → pmf_walk (bytes_of (left before)) (table b) q h ≡ pmf_walk (nodes b) (table b) q h)
        go none is = absurd (omega (arith, accepted-none ws b parts is))
        go (some t) is =
            rw (tray-is ws b parts before reserved) (draw-same ws b parts t is q, name-same ws b parts t is q)

    -- With lamps of which none has power the whole tray is zeros, and no node: hand on exactly 16 (2 k - 1) words, here
    -- none.
    pub tray-dark : b.k ≡ 0 → 0 < b.rows → (u : Float) → FromZeroToOne u
        → sample (bytes_of (left before)) q u ≡ refused 12
    tray-dark dark some-lamp u unit =
        let parts = accepted-parts lights ws nodes_lent table_lent work_lent b accepted in
        rw (tray-is ws b parts before reserved) (dark-tray ws b parts dark some-lamp q u unit)
