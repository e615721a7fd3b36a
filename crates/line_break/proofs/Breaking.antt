-- The open line, one opportunity further, and where it ends.
use Rattle.std.proofs.Common.{◌≡◌, ◌≢◌, ℕ, zero, suc, ◌+◌, ◌-◌, ◌<◌, ◌≤◌, true, false, List, [], ◌∷◌, length, take, drop, get_or, inl, inr, refl, sym, ap, subst, ◌∙◌, arith}
use Rattle.std.proofs.lemmas.Bool.Decides.{leb_tells, eqb_tells}
use Rattle.std.proofs.lemmas.List.{drop_more}
use Rattle.std.proofs.Math.ListN.{drop_of_length-le}
use Rattle.std.specs.List.{All}
use Rattle.line_break.specs.declared.cluster.Cluster.{Cluster}
use Rattle.line_break.specs.declared.line.Line.{Line}
use Rattle.line_break.specs.declared.open.Open.{Open}
use Rattle.line_break.specs.declared.opportunity.Boundary.{Boundary}
use Rattle.line_break.specs.declared.opportunity.Opportunity.{Opportunity}
use Rattle.line_break.specs.declared.status.Break.{Break}
use Rattle.line_break.specs.declared.status.Break.TheVariants.{Must, May, No}
use Rattle.line_break.specs.Lines.{columns, is_must, status_at}
use Rattle.line_break.specs.Opportunities.{opportunities_of, opportunities_behind}
use Rattle.line_break.specs.Open.{IsBoundary, IsLastFitting, IsOpen, lines_left}
use Rattle.line_break.proofs.Boundaries.{columns-step}
use Rattle.line_break.proofs.LineEnds.{solid-monotone, len-must, len-end, len-break, len-full}
use Rattle.line_break.proofs.LinesLeft.{line_of, lines_left-line, lines_left-end}
use Rattle.line_break.proofs.Listing.{IsNext, behind-next, behind-none, behind-skip, behind-start, no-opportunity, opportunity-breaks}
use Rattle.line_break.proofs.Tails.{solid, solid-le}

pub is_must-true : (a : Break) → true ≡ is_must a → a ≡ Must
is_must-true Must e = refl
is_must-true May e = absurd (cc)
is_must-true No e = absurd (cc)

not-must : (a : Break) → a ≡ No → a ≢ Must
not-must a none must = absurd (let both = sym none ∙ must in cc both)

-- the last boundary of some up to which so many columns are enough
record HasEdge (cl : List Cluster) (m from to : ℕ) : Type 0 where
  at : ℕ
  low : from ≤ at
  high : at < to
  fits : solid (take at cl) ≤ m
  over : m < solid (take (at + 1) cl)

module _ (cl : List Cluster) (m : ℕ) where
  edge : (n from : ℕ) → solid (take from cl) ≤ m → m < solid (take (from + n) cl) → HasEdge cl m from (from + n)
  edge zero from fits over = absurd (let same : from + zero ≡ from = omega arith in let t = ap (λ k. solid (take k cl)) same in omega arith)
  edge (suc n) from fits over =
      let last : from + suc n ≡ from + n + 1 = omega arith in
      elim (leb_tells (solid (take (from + n) cl)) m) [
        | inl small ↦ record {
          at = from + n;
          low = omega arith;
          high = omega arith;
          fits = small.1;
          over = subst (λ (k : ℕ). m < solid (take k cl)) last over;
        }
        | inr big ↦
            let e = edge n from fits big.1 in
            record {
              at = e.at;
              low = e.low;
              high = let h = e.high in omega arith;
              fits = e.fits;
              over = e.over;
            }
      ]

module _ (cl : List Cluster) (opps : List Opportunity) (w : ℕ) where
  -- a line that starts at a boundary
  pub opened : (b : Boundary) (n : ℕ) → IsBoundary cl b → drop n opps ≡ opportunities_behind cl b.clusters
      → IsOpen cl opps w (record { start = b; reached = b; next = n })
  opened b n k left = record {
    start = k;
    reached = k;
    order = omega arith;
    fits = let a = k.columns in let c = k.solid in let le = solid-le (take b.clusters cl) in omega arith;
    no_must = λ i a c. absurd (omega arith);
    opportunity = λ a. absurd (omega arith);
    left = left;
  }

-- a paragraph's first line
pub opened-first : (cl : List Cluster) (w : ℕ) (b : Boundary) → b ≡ record { clusters = 0; columns = 0; solid = 0 }
    → IsOpen cl (opportunities_of cl) w (record { start = b; reached = b; next = 0 })
opened-first cl w b is =
    subst (λ (x : Boundary). IsOpen cl (opportunities_of cl) w (record { start = x; reached = x; next = 0 })) (sym is)
    (opened cl (opportunities_of cl) w (record { clusters = 0; columns = 0; solid = 0 }) 0 (record { within = omega arith; columns = refl; solid = refl }) (behind-start cl))

module _ (cl : List Cluster) (opps : List Opportunity) (w : ℕ) (o : Open) (h : IsOpen cl opps w o) where
  fits-so-far : solid (take o.reached.clusters cl) ≤ columns (take o.start.clusters cl) + w
  fits-so-far = let a = h.reached.solid in let b = h.start.columns in let f = h.fits in omega arith

  -- all opportunities are read
  all-read : length opps ≤ o.next → o.reached.clusters ≡ length cl
  all-read all = behind-none cl o.reached.clusters h.reached.within (sym h.left ∙ drop_of_length-le opps all)

  pub at-end : length opps ≤ o.next → o.reached.clusters ≤ o.start.clusters → lines_left cl w o.start.clusters ≡ []
  at-end all none = let end = all-read all in lines_left-end cl w o.start.clusters (omega arith)

  pub line-end : length opps ≤ o.next → o.start.clusters < o.reached.clusters
      → lines_left cl w o.start.clusters ≡ line_of o.start.clusters o.reached.clusters ∷ lines_left cl w o.reached.clusters
  line-end all low =
      lines_left-line cl w o.start.clusters o.reached.clusters low h.reached.within
      (len-end cl w o.start.clusters o.reached.clusters fits-so-far low (all-read all) (λ i a b. h.no_must i a (omega arith)))

  pub open-reached : IsOpen cl opps w (record o { start = o.reached; reached = o.reached })
  open-reached = opened cl opps w o.reached o.next h.reached h.left

  -- the next opportunity
  module _ (d : Opportunity) (inside : o.next < length opps) where
    next : IsNext cl o.reached.clusters (get_or opps o.next d) (drop (o.next + 1) opps)
    next = behind-next cl o.reached.clusters (get_or opps o.next d) (drop (o.next + 1) opps) h.reached.within (sym h.left ∙ drop_more opps o.next d inside)

    between : (i : ℕ) → o.reached.clusters < i → i < (get_or opps o.next d).boundary.clusters → status_at cl i ≡ No
    between i a b = no-opportunity cl i (next.none i a b)

    pub next-order : o.start.clusters ≤ (get_or opps o.next d).boundary.clusters
    next-order = let low = h.order in let more = next.behind in omega arith

    -- it fits
    module _ (fits : (get_or opps o.next d).boundary.solid - o.start.columns ≤ w) where
      fits-next : solid (take (get_or opps o.next d).boundary.clusters cl) ≤ columns (take o.start.clusters cl) + w
      fits-next = let a = h.start.columns in let e = next.boundary.solid in omega arith

      none-before : (i : ℕ) → o.start.clusters < i → i < (get_or opps o.next d).boundary.clusters → status_at cl i ≢ Must
      none-before i a b = elim (leb_tells i o.reached.clusters) [
        | inl upto ↦ h.no_must i a upto.1
        | inr past ↦ not-must (status_at cl i) (between i past.1 b)
      ]

      pub open-next : false ≡ (get_or opps o.next d).must → IsOpen cl opps w (record o { reached = (get_or opps o.next d).boundary; next = o.next + 1 })
      open-next free = record {
        start = h.start;
        reached = next.boundary;
        order = let low = h.order in let more = next.behind in omega arith;
        fits = omega arith;
        no_must = λ i a b m. elim (eqb_tells i (get_or opps o.next d).boundary.clusters) [
          | inl same ↦
              let must = sym (ap is_must m) ∙ ap (λ (n : ℕ). is_must (status_at cl n)) same.1 ∙ sym next.must ∙ sym free in
              absurd (cc must)
          | inr other ↦ none-before i a (let ne = other.1 in omega arith) m
        ];
        opportunity = λ a. next.here;
        left = next.left;
      }

      -- and the line must end there
      pub line-must : true ≡ (get_or opps o.next d).must → lines_left cl w o.start.clusters
          ≡ line_of o.start.clusters (get_or opps o.next d).boundary.clusters ∷ lines_left cl w (get_or opps o.next d).boundary.clusters
      line-must must =
          let low = h.order in
          let more = next.behind in
          let e = (get_or opps o.next d).boundary.clusters in
          lines_left-line cl w o.start.clusters e (omega arith) next.boundary.within
          (len-must cl w o.start.clusters e fits-next (omega arith) next.boundary.within none-before (is_must-true (status_at cl e) (must ∙ next.must)))

      pub open-must : IsOpen cl opps w (record { start = (get_or opps o.next d).boundary; reached = (get_or opps o.next d).boundary; next = o.next + 1 })
      open-must = opened cl opps w (get_or opps o.next d).boundary (o.next + 1) next.boundary next.left

    -- it doesn't fit
    module _ (over : w < (get_or opps o.next d).boundary.solid - o.start.columns) where
      over-next : columns (take o.start.clusters cl) + w < solid (take (get_or opps o.next d).boundary.clusters cl)
      over-next = let a = h.start.columns in let e = next.boundary.solid in omega arith

      next-edge : HasEdge cl (columns (take o.start.clusters cl) + w) o.reached.clusters (get_or opps o.next d).boundary.clusters
      next-edge =
          let e = (get_or opps o.next d).boundary.clusters in
          let more = next.behind in
          let at : o.reached.clusters + (e - o.reached.clusters) ≡ e = omega arith in
          subst (HasEdge cl (columns (take o.start.clusters cl) + w) o.reached.clusters) at
          (edge cl (columns (take o.start.clusters cl) + w) (e - o.reached.clusters) o.reached.clusters fits-so-far
          (subst (λ (k : ℕ). columns (take o.start.clusters cl) + w < solid (take k cl)) (sym at) over-next))

      -- the line ends at the last one
      line-last : o.start.clusters < o.reached.clusters
          → lines_left cl w o.start.clusters ≡ line_of o.start.clusters o.reached.clusters ∷ lines_left cl w o.reached.clusters
      line-last low =
          let at = next-edge in
          let within = next.boundary.within in
          let high = at.high in
          let from = at.low in
          lines_left-line cl w o.start.clusters o.reached.clusters low h.reached.within
          (len-break cl w o.start.clusters at.at at.fits (omega arith) at.over o.reached.clusters low at.low
          (λ i a b. h.no_must i a (omega arith)) (opportunity-breaks cl o.reached.clusters (h.opportunity low) (omega arith))
          (λ i a b. between i a (omega arith)))

      -- there is none: it ends where it is full
      module _ (two : All (λ (c : Cluster). c.columns ≤ 2) cl) (wide : 2 ≤ w) (none : o.reached.clusters ≤ o.start.clusters)
          (b : Boundary) (l : IsLastFitting cl w o.start b) where
        before-next : b.clusters < (get_or opps o.next d).boundary.clusters
        before-next = elim (leb_tells (get_or opps o.next d).boundary.clusters b.clusters) [
          | inl past ↦ absurd (
              let more = solid-monotone cl w (get_or opps o.next d).boundary.clusters b.clusters past.1 in
              let a = l.boundary.solid in
              let f = l.fits in
              let c = h.start.columns in
              let big = over-next in
              omega arith)
          | inr before ↦ before.1
        ]

        inside-all : b.clusters < length cl
        inside-all = let high = before-next in let within = next.boundary.within in omega arith

        some-fit : o.start.clusters < b.clusters
        some-fit = elim (leb_tells b.clusters o.start.clusters) [
          | inl few ↦ absurd (
              let low = l.order in
              let le = few.1 in
              let same : b.clusters ≡ o.start.clusters = omega arith in
              let big = l.last inside-all in
              let small = solid-le (take (b.clusters + 1) cl) in
              let step = columns-step cl b.clusters two in
              let t = ap (λ (n : ℕ). columns (take n cl)) same in
              let c = h.start.columns in
              omega arith)
          | inr some ↦ some.1
        ]

        line-full : lines_left cl w o.start.clusters ≡ line_of o.start.clusters b.clusters ∷ lines_left cl w b.clusters
        line-full =
            let a = l.boundary.solid in
            let f = l.fits in
            let c = h.start.columns in
            let big = l.last inside-all in
            let high = before-next in
            let order = h.order in
            let low = some-fit in
            lines_left-line cl w o.start.clusters b.clusters low l.boundary.within
            (len-full cl w o.start.clusters b.clusters (omega arith) inside-all (omega arith) low
            (λ i x y. not-must (status_at cl i) (between i (omega arith) (omega arith)))
            (λ i x y. between i (omega arith) (omega arith)))

        open-full : IsOpen cl opps w (record o { start = b; reached = b })
        open-full =
            let high = before-next in
            let order = h.order in
            let low = some-fit in
            opened cl opps w b o.next l.boundary
            (h.left ∙ behind-skip cl o.reached.clusters b.clusters (omega arith) l.boundary.within (λ i x y. next.none i x (omega arith)))

      -- either way
      pub ends-before : All (λ (c : Cluster). c.columns ≤ 2) cl → 2 ≤ w → (b : Boundary) → (o.start.clusters < o.reached.clusters → b ≡ o.reached)
          → (o.reached.clusters ≤ o.start.clusters → IsLastFitting cl w o.start b)
          → (lines_left cl w o.start.clusters ≡ line_of o.start.clusters b.clusters ∷ lines_left cl w b.clusters)
          × IsOpen cl opps w (record o { start = b; reached = b })
      ends-before two wide b last full = elim (leb_tells o.reached.clusters o.start.clusters) [
        | inl none ↦ (line-full two wide none.1 b (full none.1), open-full two wide none.1 b (full none.1))
        | inr some ↦
            subst (λ (x : Boundary). (lines_left cl w o.start.clusters ≡ line_of o.start.clusters x.clusters ∷ lines_left cl w x.clusters)
            × IsOpen cl opps w (record o { start = x; reached = x })) (sym (last some.1)) (line-last some.1, open-reached)
      ]

-- a line that was cut, and what is left after it
pub line-cut : (cl : List Cluster) (w : ℕ) (first start end after : Boundary) (line : Line) → start ≡ first
    → lines_left cl w start.clusters ≡ line_of start.clusters end.clusters ∷ lines_left cl w end.clusters
    → line ≡ line_of start.clusters end.clusters → after ≡ end
    → lines_left cl w first.clusters ≡ line ∷ lines_left cl w after.clusters
line-cut cl w first start end after line same cut is on =
    ap (λ (b : Boundary). lines_left cl w b.clusters) (sym same) ∙ cut ∙ ap (λ l. l ∷ lines_left cl w end.clusters) (sym is)
    ∙ ap (λ (b : Boundary). line ∷ lines_left cl w b.clusters) (sym on)
