-- A cluster of a paragraph by its number.
use Rattle.std.proofs.Common.{◌≡◌, ℕ, zero, suc, ◌+◌, ◌-◌, ◌*◌, ◌<◌, ◌≤◌, false, List, [], ◌∷◌, ◌++◌, map, length, take, drop, slice_range, get_or, refl, sym, ap, ap₂, subst, ◌∙◌, inl, inr, arith}
use Rattle.std.proofs.lemmas.List.{length-append, length-map, take_at, drop_at, get_or-map, append_assoc}
use Rattle.std.proofs.lemmas.Bool.{cases_lt}
use Rattle.std.proofs.lemmas.List.Elements.{All-drop, All-head, All-tail}
use Rattle.std.proofs.lemmas.Str.{IsCharBoundary-at_seam}
use Rattle.std.specs.List.{All, concat}
use Rattle.std.specs.Str.{IsUtf8, IsCharBoundary}
use Rattle.unicode_tables.specs.Tables.{TableValues}
use Rattle.paragraphs.specs.Text.{code_points}
use Rattle.paragraphs.specs.Clusters.{clusters, cluster_code_points}
use Rattle.paragraphs.specs.declared.span.Span.{Span}
use Rattle.paragraphs.specs.Spans.{spans, spans_from}
use Rattle.line_break.specs.declared.cluster.Cluster.{Cluster}
use Rattle.line_break.specs.declared.cursor.Cursor.{Cursor}
use Rattle.line_break.specs.declared.opportunity.Boundary.{Boundary}
use Rattle.line_break.specs.declared.run.ShapeRun.{ShapeRun}
use Rattle.line_break.specs.declared.status.Break.{Break}
use Rattle.line_break.specs.declared.status.Break.TheVariants.{Must}
use Rattle.line_break.specs.Cursors.{AreRunsOf, count_of, IsBefore, IsReadAt}
use Rattle.line_break.specs.LineClusters.{is_space, measured_all, line_clusters}
use Rattle.line_break.specs.Opportunities.{behind}
use Rattle.line_break.specs.Runs.{span_in, spans_of, columns_of, no_run}
use Rattle.line_break.specs.Statuses.{breaks}
use Rattle.line_break.proofs.Counting.{length-flat, flat-at, length-spans_of, length-columns_of, span-at, column-at, count-next, count-within}
use Rattle.line_break.proofs.Joining.{length-line_clusters}
use Rattle.line_break.proofs.Outlining.{IsUtf8-concat}

no_span : Span
no_span = record { first_byte = 0; end_byte = 0; first_place = 0; end_place = 0 }

-- clusters that follow one another
pub length-spans_from : (byte place : ℕ) (cs : List (List ℕ)) → length (spans_from byte place cs) ≡ length cs
length-spans_from byte place [] = refl
length-spans_from byte place (c ∷ cs) = let later = length-spans_from (byte + length c) (place + length (code_points c)) cs in omega arith

-- how many bytes stand before the cluster of this number
abbrev before : List (List ℕ) → ℕ → ℕ
before cs k = length (concat (take k cs))

before-suc : (cs : List (List ℕ)) (k : ℕ) → k < length cs → before cs (suc k) ≡ before cs k + length (get_or cs k [])
before-suc [] k lt = absurd (omega arith)
before-suc (c ∷ cs) zero lt = let one = length-append c [] in omega arith
before-suc (c ∷ cs) (suc k) lt =
    let later = before-suc cs k (omega arith) in
    let more = length-append c (concat (take (suc k) cs)) in
    let less = length-append c (concat (take k cs)) in
    omega arith

span-first : (byte place : ℕ) (cs : List (List ℕ)) (k : ℕ) → k < length cs → (get_or (spans_from byte place cs) k no_span).first_byte ≡ byte + before cs k
span-first byte place [] k lt = absurd (omega arith)
span-first byte place (c ∷ cs) zero lt = omega arith
span-first byte place (c ∷ cs) (suc k) lt =
    let later = span-first (byte + length c) (place + length (code_points c)) cs k (omega arith) in
    let more = length-append c (concat (take k cs)) in
    omega arith

span-end : (byte place : ℕ) (cs : List (List ℕ)) (k : ℕ) → k < length cs
    → (get_or (spans_from byte place cs) k no_span).end_byte ≡ (get_or (spans_from byte place cs) k no_span).first_byte + length (get_or cs k [])
span-end byte place [] k lt = absurd (omega arith)
span-end byte place (c ∷ cs) zero lt = refl
span-end byte place (c ∷ cs) (suc k) lt = span-end (byte + length c) (place + length (code_points c)) cs k (omega arith)

split : (cs : List (List ℕ)) (k : ℕ) → concat cs ≡ concat (take k cs) ++ concat (drop k cs)
split cs zero = refl
split [] (suc k) = refl
split (c ∷ cs) (suc k) = ap (λ t. c ++ t) (split cs k) ∙ sym (append_assoc c (concat (take k cs)) (concat (drop k cs)))

first-of : (cs : List (List ℕ)) (k : ℕ) → k < length cs → concat (drop k cs) ≡ get_or cs k [] ++ concat (drop (suc k) cs)
first-of [] k lt = absurd (omega arith)
first-of (c ∷ cs) zero lt = refl
first-of (c ∷ cs) (suc k) lt = first-of cs k (omega arith)

-- what a cluster is read as
spaces-at : (tables : TableValues) (css : List (List ℕ)) (statuses : List Break) (k : ℕ) → k < length css
    → get_or (map (λ (c : Cluster). c.is_space) (measured_all tables css statuses)) k false ≡ is_space tables (get_or css k [])
spaces-at tables [] statuses k lt = absurd (omega arith)
spaces-at tables (c ∷ css) statuses zero lt = refl
spaces-at tables (c ∷ css) statuses (suc k) lt = spaces-at tables css (drop (length c) statuses) k (omega arith)

module _ (text : List ℕ) (joined : concat (clusters text) ≡ text) (utf8 : All IsUtf8 (clusters text)) where
  -- a text may be cut before each of its clusters
  boundary-at : (k : ℕ) → IsCharBoundary text (before (clusters text) k)
  boundary-at k =
      IsCharBoundary-at_seam text (concat (take k (clusters text))) (concat (drop k (clusters text))) (sym joined ∙ split (clusters text) k)
      (IsUtf8-concat (drop k (clusters text)) (All-drop IsUtf8 k (clusters text) utf8))

  slice-at : (k : ℕ) → k < length (clusters text) → slice_range text (before (clusters text) k) (before (clusters text) k + length (get_or (clusters text) k [])) ≡ get_or (clusters text) k []
  slice-at k lt =
      let cs = clusters text in
      let own = get_or cs k [] in
      let size : length own ≡ before cs k + length own - before cs k = omega arith in
      ap (λ t. take (before cs k + length own - before cs k) t)
      (ap (drop (before cs k)) (sym joined ∙ split cs k) ∙ drop_at (concat (take k cs)) (concat (drop k cs)) (before cs k) refl ∙ first-of cs k lt)
      ∙ take_at own (concat (drop (suc k) cs)) (before cs k + length own - before cs k) size

  -- the cluster of number k, in a run of these
  module _ (tables : TableValues) (runs : List ShapeRun) (r : AreRunsOf tables text runs) where
    count-clusters : count_of runs ≡ length (clusters text)
    count-clusters = sym (length-flat spans_of length-spans_of runs) ∙ ap length r.spans ∙ length-spans_from 0 0 (clusters text)

    pub count-lines : count_of runs ≡ length (line_clusters tables text)
    count-lines = count-clusters ∙ sym (length-line_clusters tables text)

    module _ (i k : ℕ) (e : ShapeRun) (inside : i < length runs) (low : count_of (take i runs) ≤ k) (high : k < count_of (take (i + 1) runs)) (all : k < count_of runs) where
      nth-within : k - count_of (take i runs) < (get_or runs i e).count
      nth-within = let next = count-next runs i e inside in omega arith

      span-is : get_or (spans text) k no_span ≡ span_in (get_or runs i e) (k - count_of (take i runs))
      span-is =
          ap (λ l. get_or l k no_span) (sym r.spans) ∙ flat-at spans_of length-spans_of runs i k e no_span inside low high
          ∙ span-at (get_or runs i e) (k - count_of (take i runs)) no_span nth-within

      -- its bytes
      first-is : (get_or runs i e).first_byte + (k - count_of (take i runs)) * (get_or runs i e).bytes ≡ before (clusters text) k
      first-is =
          let lt : k < length (clusters text) = let n = count-clusters in omega arith in
          let at = ap (λ (s : Span). s.first_byte) span-is in
          let own = span-first 0 0 (clusters text) k lt in
          omega arith

      size-is : (get_or runs i e).bytes ≡ length (get_or (clusters text) k [])
      size-is =
          let lt : k < length (clusters text) = let n = count-clusters in omega arith in
          let a = ap (λ (s : Span). s.first_byte) span-is in
          let b = ap (λ (s : Span). s.end_byte) span-is in
          let c = span-end 0 0 (clusters text) k lt in
          omega arith

      end-within : before (clusters text) k + length (get_or (clusters text) k []) ≤ length text
      end-within =
          let lt : k < length (clusters text) = let n = count-clusters in omega arith in
          let next = before-suc (clusters text) k lt in
          let whole = ap length (sym joined ∙ split (clusters text) (suc k)) in
          let both = length-append (concat (take (suc k) (clusters text))) (concat (drop (suc k) (clusters text))) in
          omega arith

      start-boundary : (first : ℕ) → first ≡ (get_or runs i e).first_byte + (k - count_of (take i runs)) * (get_or runs i e).bytes → IsCharBoundary text first
      start-boundary first is = subst (IsCharBoundary text) (sym (is ∙ first-is)) (boundary-at k)

      end-boundary : (first : ℕ) → first ≡ (get_or runs i e).first_byte + (k - count_of (take i runs)) * (get_or runs i e).bytes → IsCharBoundary text (first + (get_or runs i e).bytes)
      end-boundary first is =
          let lt : k < length (clusters text) = let n = count-clusters in omega arith in
          let end : before (clusters text) (suc k) ≡ first + (get_or runs i e).bytes = before-suc (clusters text) k lt ∙ ap₂ ◌+◌ (sym (is ∙ first-is)) (sym size-is) in
          subst (IsCharBoundary text) end (boundary-at (suc k))

      read-is : (first : ℕ) (slice : List ℕ) (cluster : Cluster) → first ≡ (get_or runs i e).first_byte + (k - count_of (take i runs)) * (get_or runs i e).bytes
          → slice ≡ slice_range text first (first + (get_or runs i e).bytes) → cluster.columns ≡ (get_or runs i e).columns → cluster.is_space ≡ is_space tables (code_points slice)
          → IsReadAt (line_clusters tables text) k cluster
      unfolding line_clusters
      read-is first slice cluster is cut columns spaces =
          let lt : k < length (clusters text) = let n = count-clusters in omega arith in
          let points = get_or-map code_points (clusters text) k [] [] lt in
          let n = length-map (clusters text) code_points in
          record {
            within = let n = count-lines in omega arith;
            columns =
                columns ∙ sym (column-at (get_or runs i e) (k - count_of (take i runs)) 0 nth-within)
                ∙ sym (flat-at columns_of length-columns_of runs i k e 0 inside low high) ∙ ap (λ l. get_or l k 0) r.columns;
            is_space =
                spaces
                ∙ ap (λ t. is_space tables (code_points t)) (cut ∙ ap₂ (λ a b. slice_range text a (a + b)) (is ∙ first-is) size-is ∙ slice-at k lt)
                ∙ ap (is_space tables) (sym points)
                ∙ sym (spaces-at tables (cluster_code_points text) (breaks tables text) k (omega arith));
          }

-- the boundary after a cluster doesn't ask for the status there
behind-alike : (b : Boundary) (c d : Cluster) → c.columns ≡ d.columns → c.is_space ≡ d.is_space → behind b c ≡ behind b d
behind-alike b c d columns spaces =
    ap₂ (λ n s. let x : Cluster = record { columns = n; is_space = s; after = c.after } in behind b x) columns spaces

pub behind-read : (cl : List Cluster) (k : ℕ) (b : Boundary) (c d : Cluster) → IsReadAt cl k c → behind b c ≡ behind b (get_or cl k d)
behind-read cl k b c d at =
    behind-alike b c (get_or cl k d)
    (at.columns ∙ get_or-map (λ (x : Cluster). x.columns) cl k d 0 at.within)
    (at.is_space ∙ get_or-map (λ (x : Cluster). x.is_space) cl k d false at.within)

pub columns-read : (cl : List Cluster) (k : ℕ) (c d : Cluster) → IsReadAt cl k c → c.columns ≡ (get_or cl k d).columns
columns-read cl k c d at = at.columns ∙ get_or-map (λ (x : Cluster). x.columns) cl k d 0 at.within

-- a cluster that is read where there is one
pub no_cluster : Cluster
no_cluster = record { columns = 0; is_space = false; after = Must }

-- a cursor that hasn't passed a cluster has passed none behind it
pub IsBefore-later : (runs : List ShapeRun) (cursor : Cursor) (n m : ℕ) → IsBefore runs cursor n → n ≤ m → IsBefore runs cursor m
IsBefore-later runs cursor n m b le = record { within = b.within; first = b.first; order = let low = b.order in omega arith }

clusters-fit : (cs : List (List ℕ)) → All (λ (cluster : List ℕ). 0 < length cluster) cs → length cs ≤ length (concat cs)
clusters-fit [] some = omega arith
clusters-fit (c ∷ cs) some =
    let own = All-head (λ (x : List ℕ). 0 < length x) c cs some in
    let later = clusters-fit cs (All-tail (λ (x : List ℕ). 0 < length x) c cs some) in
    let both = length-append c (concat cs) in
    omega arith

-- no text has more clusters than bytes
pub few-lines : (tables : TableValues) (text : List ℕ) → concat (clusters text) ≡ text → All (λ (cluster : List ℕ). 0 < length cluster) (clusters text)
    → length (line_clusters tables text) ≤ length text
few-lines tables text joined some =
    let fit = clusters-fit (clusters text) some in
    let whole = ap length joined in
    let each = length-line_clusters tables text in
    omega arith

-- a text has clusters unless it is empty
pub no-lines : (tables : TableValues) (text : List ℕ) → concat (clusters text) ≡ text → All (λ (cluster : List ℕ). 0 < length cluster) (clusters text) → length text ≡ 0
    → length (line_clusters tables text) ≡ 0
no-lines tables text joined some none = let few = few-lines tables text joined some in omega arith

none-joined : (cs : List (List ℕ)) → length cs ≡ 0 → length (concat cs) ≡ 0
none-joined [] none = refl
none-joined (c ∷ cs) none = absurd (omega arith)

pub some-lines : (tables : TableValues) (text : List ℕ) → concat (clusters text) ≡ text → 0 < length text → 0 < length (line_clusters tables text)
some-lines tables text joined some = elim (cases_lt 0 (length (line_clusters tables text))) [
  | inl one ↦ one
  | inr none ↦ absurd (
      let each = length-line_clusters tables text in
      let empty = none-joined (clusters text) (omega arith) in
      let whole = ap length joined in
      omega arith)
]

-- the cluster of number k stands in the run at which a cursor is
pub record IsFound (tables : TableValues) (text : List ℕ) (runs : List ShapeRun) (cursor : Cursor) (k : ℕ) : Type 0 where
  pub inside : cursor.run < length runs
  pub skipped : (k - cursor.first) * (get_or runs cursor.run no_run).bytes ≤ length text
  pub end : (get_or runs cursor.run no_run).first_byte + (k - cursor.first) * (get_or runs cursor.run no_run).bytes + (get_or runs cursor.run no_run).bytes ≤ length text
  pub start_boundary : IsCharBoundary text ((get_or runs cursor.run no_run).first_byte + (k - cursor.first) * (get_or runs cursor.run no_run).bytes)
  pub end_boundary : IsCharBoundary text ((get_or runs cursor.run no_run).first_byte + (k - cursor.first) * (get_or runs cursor.run no_run).bytes + (get_or runs cursor.run no_run).bytes)
  pub read : (slice : List ℕ) (cluster : Cluster)
      → slice ≡ slice_range text ((get_or runs cursor.run no_run).first_byte + (k - cursor.first) * (get_or runs cursor.run no_run).bytes)
      ((get_or runs cursor.run no_run).first_byte + (k - cursor.first) * (get_or runs cursor.run no_run).bytes + (get_or runs cursor.run no_run).bytes)
      → cluster.columns ≡ (get_or runs cursor.run no_run).columns → cluster.is_space ≡ is_space tables (code_points slice) → IsReadAt (line_clusters tables text) k cluster

less-from : (a b : ℕ) → a ≤ b → (a ≡ b → ⊥) → a < b
less-from a b le ne = elim (cases_lt a b) [
  | inl lt ↦ lt
  | inr ge ↦ absurd (ne (omega arith))
]

pub found : (text : List ℕ) (joined : concat (clusters text) ≡ text) (utf8 : All IsUtf8 (clusters text)) (tables : TableValues) (runs : List ShapeRun) (r : AreRunsOf tables text runs)
    (cursor : Cursor) (k : ℕ) → IsBefore runs cursor k → (cursor.run < length runs → k < count_of (take (cursor.run + 1) runs)) → (cursor.run ≡ length runs → ⊥)
    → IsFound tables text runs cursor k
found text joined utf8 tables runs r cursor k b here some =
    let inside = less-from cursor.run (length runs) b.within some in
    let first = b.first in
    let order = b.order in
    let low : count_of (take cursor.run runs) ≤ k = omega arith in
    let high = here inside in
    let whole = count-within runs (cursor.run + 1) in
    let all : k < count_of runs = omega arith in
    let run = get_or runs cursor.run no_run in
    let skip : (k - cursor.first) * run.bytes ≡ (k - count_of (take cursor.run runs)) * run.bytes = ap (λ n. (k - n) * run.bytes) first in
    let start : run.first_byte + (k - cursor.first) * run.bytes ≡ run.first_byte + (k - count_of (take cursor.run runs)) * run.bytes = ap (λ n. run.first_byte + n) skip in
    let at = start ∙ first-is text joined utf8 tables runs r cursor.run k no_run inside low high all in
    let size = size-is text joined utf8 tables runs r cursor.run k no_run inside low high all in
    let end = end-within text joined utf8 tables runs r cursor.run k no_run inside low high all in
    record {
      inside = inside;
      skipped = omega arith;
      end = omega arith;
      start_boundary = start-boundary text joined utf8 tables runs r cursor.run k no_run inside low high all _ start;
      end_boundary = end-boundary text joined utf8 tables runs r cursor.run k no_run inside low high all _ start;
      read = λ slice cluster cut columns spaces. read-is text joined utf8 tables runs r cursor.run k no_run inside low high all _ slice cluster start cut columns spaces;
    }
