-- The runs of u over an accepted build: the fields of demand 3 about draws (`unbroken`, `leaf-order`, `upward`), and
-- from which u to which a lamp is drawn (`from-one-to_another`). Assumes nothing.
use Rattle.std.specs.Prelude.{ℕ, ◌≤◌, ◌<◌, ◌≡◌, refl, Bool, false, List, ◌⊎◌, ◌↔◌, T, eqb, Float}
use Rattle.std.proofs.Common.{ap, sym, subst, ◌∙◌, inl, inr, eq-or-lt_of_le, eqb→eq}
use Rattle.std.proofs.Math.Option.{Option, none, some}
use Rattle.std.specs.Float.Ieee.{le, of_bits}
use Rattle.std.specs.Float.Ieee.Fits.{eq→eqb}
use Rattle.words.proofs.ListLaws.{reversed-twice, last-first}
use Rattle.ieee.specs.Choose.{fmin}
use Rattle.ieee.specs.Laws.ChooseOrder.{fmin-is, fmin-cap, fmin_mono}
use Rattle.ieee.specs.Laws.OrderLaws.{nonneg, le→nonneg}
use Rattle.ieee.specs.Single.{onef}
use Rattle.words.specs.Answers.{Answer, given, refused}
use Rattle.words.proofs.AnswerLaws.{given_injective}
use Rattle.light_bounds.specs.declared.importance.Query.{Query}
use Rattle.light_rows.specs.Nodes.{LightBVHNode, leaf as leaf_node, interior, node_at}
use Rattle.light_rows.specs.Tree.{Tree}
use Rattle.light_bvh.specs.Build.{LightBVH, nodes_written}
use Rattle.light_sampler.specs.Fork.{most}
use Rattle.light_sampler.specs.Sampler.{sample_walk, sample, pmf}
use Rattle.light_sampler.specs.Walks.{Walked, Draw}
use Rattle.tree_laws.specs.Laws.AcceptedTree.{Parts}
use Rattle.light_runs.specs.Laws.AcceptedWalks.{draw-nothing, draw-walk, name-walk}
use Rattle.light_runs.specs.DemandWords.{FromZeroToOne, InOrder, nodes, table, Draws, draw_enters, name_enters}
use Rattle.tree_laws.specs.TreeWords.{place_of}
use Rattle.words.specs.Lists.{reversed}
use Rattle.words.specs.AsCoded.ListParts.{last_of}
use Rattle.light_runs.specs.Laws.DownLaws.{weighed-not-below}
use Rattle.light_runs.specs.Laws.FromTo.{from-to}
use Rattle.light_runs.specs.Laws.RunLaws.{cap, walk-last, walk-between}
use Rattle.light_runs.specs.AsCoded.WeightedTree.{walk, weighed}

-- ---- u capped at the root

capped : (u : Float) → FromZeroToOne u → T (nonneg (fmin u most))
unfolding of_bits
capped u unit = elim (fmin-is u most) [
  | inl e ↦ subst (λ (x : Float). T (nonneg x)) (sym e) (le→nonneg u unit.from_zero)
  | inr e ↦ subst (λ (x : Float). T (nonneg x)) (sym e) tt
]

-- ---- the fields

-- a leaf's label
abbrev labelled : LightBVHNode → ℕ
labelled (leaf_node h p) = h
labelled (interior l r p) = 0

module _ (ws : List ℕ) (b : LightBVH) (parts : Parts ws b) where
  pub upward : (q : Query) (u : Float) → FromZeroToOne u → (h : ℕ) → Draws b q u h
      → (name_enters b q h ≡ reversed (draw_enters b q u)) × (c : Float) × (pmf (nodes b) (table b) q h ≡ given c)
  upward q u unit h d = go b.tree refl
    where
      go : (o : Option Tree) → b.tree ≡ o
          → (name_enters b q h ≡ reversed (draw_enters b q u)) × (c : Float) × (pmf (nodes b) (table b) q h ≡ given c)
      go none is = absurd (draw-nothing ws b parts q u unit is h d)
      go (some t) is =
          let name = name-walk ws b parts t is q u unit h d in (
            ap (λ (w : Walked Float). w.places) name.named,
            name.chance,
            ap (λ (w : Walked Float). w.outcome)
                name.named,
          )

  module _ (t : Tree) (is : b.tree ≡ some t) (q : Query) where
    -- the same places are entered by all u that draw the lamp
    same-places : (u w : Float) → FromZeroToOne u → FromZeroToOne w → (h : ℕ) → Draws b q u h → Draws b q w h
        → draw_enters b q u ≡ draw_enters b q w
    same-places u w first last h d f =
        sym (reversed-twice (draw_enters b q u))
        ∙ ap (λ (xs : List ℕ). reversed xs)
        (sym (ap (λ (w : Walked Float). w.places) (name-walk ws b parts t is q u first h d).named)
        ∙ ap (λ (w : Walked Float). w.places) (name-walk ws b parts t is q w last h f).named)
        ∙ reversed-twice (draw_enters b q w)

    between : (u v w : Float) → InOrder u v → InOrder v w → (h : ℕ) → Draws b q u h → Draws b q w h → Draws b q v h
    between u v w uv vw h d f =
        let at : (x : Float) → FromZeroToOne x → sample_walk (nodes b) q x ≡ walk 0 (weighed q t) onef (fmin x most) =
        λ x unit. draw-walk ws b parts q x unit t is in
        let enters : (walk 0 (weighed q t) onef (fmin u most)).places ≡ (walk 0 (weighed q t) onef
        (fmin w most)).places
        =
        ap (λ (x : Walked Draw). x.places) (sym (at u uv.first)) ∙ same-places u w uv.first vw.second h d f
        ∙ ap (λ (x : Walked Draw). x.places) (at w vw.second) in
        let alike =
        walk-between 0 (weighed q t) onef (fmin u most) (fmin v most) (fmin w most) (weighed-not-below q t)
        (capped u uv.first)
        (fmin_mono u v most cap.known uv.order) (fmin_mono v w most cap.known vw.order)
        (fmin-cap w most cap.known) enters in
        (d.0, ap (λ (x : Walked Draw). x.outcome) (at v uv.second ∙ alike ∙ sym (at u uv.first)) ∙ d.1)

    -- the place where the draw ends is the lamp's
    ends_at : (u : Float) → FromZeroToOne u → (h : ℕ) → Draws b q u h
        → last_of (walk 0 (weighed q t) onef (fmin u most)).places ≡ place_of b h
    ends_at u unit h d =
        let name = name-walk ws b parts t is q u unit h d in
        ap (λ (w : Walked Draw). last_of w.places) (sym (draw-walk ws b parts q u unit t is))
        ∙ last-first (draw_enters b q u) (place_of b h) name.before name.last-is

    in_order : (u w : Float) → InOrder u w → (h i : ℕ) → Draws b q u h → Draws b q w i → place_of b h ≤ place_of b i
    in_order u w uw h i d f =
        rw (← ends_at u uw.first h d, ← ends_at w uw.second i f)
        (walk-last 0 (weighed q t) onef onef (fmin u most) (fmin w most) (weighed-not-below q t) (capped u uw.first)
        (fmin_mono u w most cap.known uw.order) (fmin-cap w most cap.known))

    -- two lamps at one place are one
    apart : (u w : Float) → InOrder u w → (h i : ℕ) → Draws b q u h → Draws b q w i → place_of b h ≡ place_of b i
        → h ≡ i
    apart u w uw h i d f e =
        let at = name-walk ws b parts t is q u uw.first h d in
        let other = name-walk ws b parts t is q w uw.second i f in
        given-label (node_at (nodes_written b) (place_of b h)) h at.above i other.above at.node-is
        (rw e other.node-is)
      where
        given-label : (x : Answer LightBVHNode) (h p i r : ℕ) → x ≡ given (leaf_node h p) → x ≡ given (leaf_node i r)
            → h ≡ i
        given-label x h p i r e f = ap labelled (given_injective {a = leaf_node h p} {b = leaf_node i r} (sym e ∙ f))

  pub unbroken : (q : Query) (u v w : Float) → InOrder u v → InOrder v w → (h : ℕ) → Draws b q u h → Draws b q w h
      → Draws b q v h
  unbroken q u v w uv vw h d f = go b.tree refl
    where
      go : (o : Option Tree) → b.tree ≡ o → Draws b q v h
      go none is = absurd (draw-nothing ws b parts q u uv.first is h d)
      go (some t) is = between t is q u v w uv vw h d f

  pub leaf-order : (q : Query) (u w : Float) → InOrder u w → (h i : ℕ) → Draws b q u h → Draws b q w i → (h ≡ i → ⊥)
      → place_of b h < place_of b i
  leaf-order q u w uw h i d f other = go b.tree refl
    where
      go : (o : Option Tree) → b.tree ≡ o → place_of b h < place_of b i
      go none is = absurd (draw-nothing ws b parts q u uw.first is h d)
      go (some t) is =
          elim (eq-or-lt_of_le (in_order t is q u w uw h i d f))
          [ inl e ↦ absurd (other (apart t is q u w uw h i d f e)) | inr l ↦ l ]

  -- ---- from one u to another

  -- whether an answer is the lamp h
  abbrev is_lamp : ℕ → Answer Draw → Bool
  is_lamp h (given (some x)) = eqb x.0 h
  is_lamp h (given none) = false
  is_lamp h (refused n) = false

  lamp-drawn : (h : ℕ) (a : Answer Draw) → T (is_lamp h a) → (c : Float) × (a ≡ given (some (h, c)))
  lamp-drawn h (given (some x)) l = (x.1, ap (λ (i : ℕ). given (some (i, x.1))) (eqb→eq x.0 h l))
  lamp-drawn h (given none) l = absurd l
  lamp-drawn h (refused n) l = absurd l

  drawn_lamp : (h : ℕ) (a : Answer Draw) (c : Float) → a ≡ given (some (h, c)) → T (is_lamp h a)
  drawn_lamp h a c e = rw e (eq→eqb {a = h} refl)

  pub from-one-to_another : (q : Query) (h : ℕ)
      → ((u : Float) → FromZeroToOne u → Draws b q u h → ⊥)
      ⊎ ((first : Float) × (last : Float) × FromZeroToOne first × FromZeroToOne last
      × ((u : Float) → FromZeroToOne u → Draws b q u h ↔ (T (le first u) × T (le u last))))
  from-one-to_another q h =
      elim (from-to (λ (u : Float). is_lamp h (sample (nodes b) q u)) gapless) [
        | inl never ↦ inl (λ u unit d. never u unit (drawn_lamp h (sample (nodes b) q u) d.0 d.1))
        | inr run ↦ inr (
          run.0,
          run.1,
          run.2,
          run.3,
          λ u unit. (
            λ d. (run.6 u unit).0 (drawn_lamp h (sample (nodes b) q u) d.0 d.1),
            λ within. lamp-drawn h (sample (nodes b) q u) ((run.6 u unit).1 within),
          ),
        )
      ]
    where
      gapless : (u v w : Float) → InOrder u v → InOrder v w → T (is_lamp h (sample (nodes b) q u))
          → T (is_lamp h (sample (nodes b) q w))
          → T (is_lamp h (sample (nodes b) q v))
      gapless u v w uv vw d f =
          let (c, e) =
          unbroken q u v w uv vw h (lamp-drawn h (sample (nodes b) q u) d) (lamp-drawn h (sample (nodes b) q w) f) in
          drawn_lamp h (sample (nodes b) q v) c e
