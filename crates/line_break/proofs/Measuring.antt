-- The clusters of a paragraph, measured up to one of them.
use Rattle.std.proofs.Common.{◌≡◌, ℕ, zero, suc, ◌+◌, ◌-◌, ◌<◌, ◌≤◌, Bool, true, false, cond, List, [], ◌∷◌, ◌++◌, map, length, take, drop, get_or, sum, refl, sym, ap, subst, ◌∙◌, arith}
use Rattle.std.proofs.lemmas.List.{append-nil, append_assoc, length-map, drop-drop, get_or-drop, take_at}
use Rattle.std.proofs.lemmas.List.Elements.{All-nil, All-cons, All-head, All-tail, All-take}
use Rattle.std.proofs.lemmas.List.Sums.{sum_by-cons}
use Rattle.std.specs.List.{All, list_all, list_any}
use Rattle.std.specs.Str.{IsUtf8}
use Rattle.unicode_tables.specs.Tables.{TableValues}
use Rattle.paragraphs.specs.Text.{code_points}
use Rattle.paragraphs.specs.Clusters.{clusters, cluster_code_points, cluster_sizes}
use Rattle.paragraphs.specs.Columns.{begins_with_end, is_invisible, takes_two, takes_two_by_choice, columns_by_choice, columns_of}
use Rattle.line_break.specs.declared.cluster.Cluster.{Cluster}
use Rattle.line_break.specs.declared.status.Break.{Break}
use Rattle.line_break.specs.declared.status.Break.TheVariants.{Must}
use Rattle.line_break.specs.Items.{Item, point_of}
use Rattle.line_break.specs.Statuses.{statuses_behind, breaks}
use Rattle.line_break.specs.LineClusters.{is_space as is_space_of, measured, measured_all, line_clusters}
use Rattle.line_break.specs.declared.measure.Measure.{Measure}
use Rattle.line_break.specs.Measures.{measure_of}
pub use Rattle.line_break.specs.Reached.{sizes, first_lines, IsMeasuredTo}

length-statuses_behind : (front later : List Item) → length (statuses_behind front later) ≡ length later
length-statuses_behind front [] = refl
length-statuses_behind front (p ∷ later) = let more = length-statuses_behind (front ++ p ∷ []) later in omega arith

-- a status for each code point
pub length-breaks : (tables : TableValues) (text : List ℕ) → length (breaks tables text) ≡ length (code_points text)
unfolding breaks
length-breaks tables text = length-statuses_behind [] (map (point_of tables) (code_points text)) ∙ length-map (code_points text) (point_of tables)

module _ (tables : TableValues) (text : List ℕ) where
  pub IsMeasuredTo-start : (left : List (List ℕ)) (done : List Cluster) → left ≡ clusters text → All IsUtf8 left → All (λ size. 0 < size) (cluster_sizes text)
      → sum (cluster_sizes text) ≡ length (code_points text) → done ≡ [] → IsMeasuredTo tables text left done 0
  unfolding line_clusters
  IsMeasuredTo-start left done all u some whole none =
      let start : IsMeasuredTo tables text (clusters text) [] 0 = record {
        utf8 = subst (All IsUtf8) all u;
        some = some;
        places = let b = length-breaks tables text in omega arith;
        so_far = refl;
      } in
      subst (λ (l : List (List ℕ)). IsMeasuredTo tables text l done 0) (sym all)
      (subst (λ (d : List Cluster). IsMeasuredTo tables text (clusters text) d 0) (sym none) start)

  module _ (left : List (List ℕ)) (done : List Cluster) (place : ℕ) (m : IsMeasuredTo tables text left done place) where
    -- all clusters are measured
    pub line_clusters-end : left ≡ [] → done ≡ line_clusters tables text
    line_clusters-end none = sym (append-nil done) ∙ ap (λ l. done ++ measured_all tables (map code_points l) (drop place (breaks tables text))) (sym none) ∙ m.so_far

    -- one more cluster
    module _ (c : List ℕ) (later : List (List ℕ)) (e : left ≡ c ∷ later) where
      at_cluster : IsMeasuredTo tables text (c ∷ later) done place
      at_cluster = subst (λ (l : List (List ℕ)). IsMeasuredTo tables text l done place) e m

      pub cluster-utf8 : IsUtf8 c
      cluster-utf8 = All-head IsUtf8 c later at_cluster.utf8

      pub cluster-some : 0 < length (code_points c)
      cluster-some = All-head (λ n. 0 < n) (length (code_points c)) (sizes later) at_cluster.some

      pub cluster-fits : place + length (code_points c) ≤ length (breaks tables text)
      cluster-fits = let all = at_cluster.places in let more = sum_by-cons (λ (n : ℕ). n) (length (code_points c)) (sizes later) in omega arith

      pub IsMeasuredTo-on : (more : List Cluster) (size : ℕ) (new : Cluster) → size ≡ length (code_points c)
          → new ≡ measured tables (code_points c) (drop place (breaks tables text)) → more ≡ done ++ new ∷ []
          → IsMeasuredTo tables text later more (place + size)
      IsMeasuredTo-on more size new n is put =
          let next : IsMeasuredTo tables text later (done ++ measured tables (code_points c) (drop place (breaks tables text)) ∷ []) (place + length (code_points c)) = record {
            utf8 = All-tail IsUtf8 c later at_cluster.utf8;
            some = All-tail (λ n. 0 < n) (length (code_points c)) (sizes later) at_cluster.some;
            places = let all = at_cluster.places in let all_more = sum_by-cons (λ (n : ℕ). n) (length (code_points c)) (sizes later) in omega arith;
            so_far =
                append_assoc done (measured tables (code_points c) (drop place (breaks tables text)) ∷ []) _
                ∙ ap (λ s. done ++ measured tables (code_points c) (drop place (breaks tables text)) ∷ measured_all tables (map code_points later) s)
                (sym (drop-drop (length (code_points c)) place (breaks tables text)))
                ∙ at_cluster.so_far;
          } in
          subst (λ (x : List Cluster). IsMeasuredTo tables text later x (place + size)) (sym (put ∙ ap (λ x. done ++ x ∷ []) is))
          (subst (λ (x : ℕ). IsMeasuredTo tables text later (done ++ measured tables (code_points c) (drop place (breaks tables text)) ∷ []) (place + x)) (sym n) next)

-- one more of a list that goes on with it
take-on : {A : Type 0} (n : ℕ) (xs : List A) (x : A) (rest : List A) → take n xs ++ x ∷ rest ≡ xs → take (suc n) xs ≡ take n xs ++ x ∷ []
take-on zero xs x rest e = ap (take 1) (sym e)
take-on (suc n) [] x rest e = absurd (cc e)
take-on (suc n) (y ∷ xs) x rest e = let later : take n xs ++ x ∷ rest ≡ xs = cc e in ap (λ l. y ∷ l) (take-on n xs x rest later)

module _ (tables : TableValues) (text : List ℕ) (left : List (List ℕ)) (n place : ℕ) (m : IsMeasuredTo tables text left (first_lines tables text n) place) where
  pub first_lines-on : (c : List ℕ) (later : List (List ℕ)) → left ≡ c ∷ later → (new : Cluster) → new ≡ measured tables (code_points c) (drop place (breaks tables text))
      → first_lines tables text (n + 1) ≡ first_lines tables text n ++ new ∷ []
  first_lines-on c later e new is =
      let here = subst (λ (l : List (List ℕ)). IsMeasuredTo tables text l (first_lines tables text n) place) e m in
      let one : n + 1 ≡ suc n = omega arith in
      ap (first_lines tables text) one ∙ take-on n (line_clusters tables text) _ _ here.so_far ∙ ap (λ x. first_lines tables text n ++ x ∷ []) (sym is)

same_default : (xs : List Break) (i : ℕ) (d e : Break) → i < length xs → get_or xs i d ≡ get_or xs i e
same_default [] i d e l = absurd (omega arith)
same_default (x ∷ xs) zero d e l = refl
same_default (x ∷ xs) (suc i) d e l = same_default xs i d e (omega arith)

-- a cluster with the status after its last code point
pub measured-is : (tables : TableValues) (points : List ℕ) (statuses all : List Break) (place size columns : ℕ) (is_space : Bool) (after : Break)
    → statuses ≡ all → size ≡ length points → 0 < length points → place + length points ≤ length all
    → columns ≡ columns_of tables points → is_space ≡ is_space_of tables points → after ≡ get_or statuses (place + size - 1) after
    → record { columns = columns; is_space = is_space; after = after } ≡ measured tables points (drop place all)
measured-is tables points statuses all place size columns is_space after same n some fits a b at =
    let status : after ≡ get_or (drop place all) (length points - 1) Must =
    at ∙ ap (λ s. get_or s (place + size - 1) after) same
    ∙ same_default all (place + size - 1) after Must (omega arith)
    ∙ (let where_at : place + size - 1 ≡ place + (length points - 1) = omega arith in ap (λ i. get_or all i Must) where_at)
    ∙ sym (get_or-drop place all (length points - 1) Must) in
    ap (λ x. cluster_of x is_space after) a ∙ ap (λ x. cluster_of (columns_of tables points) x after) b
    ∙ ap (λ x. cluster_of (columns_of tables points) (is_space_of tables points) x) status
  where
    cluster_of : ℕ → Bool → Break → Cluster
    cluster_of columns is_space after = record { columns = columns; is_space = is_space; after = after }

take-none : {A : Type 0} (n : ℕ) → take {A = A} n [] ≡ []
take-none zero = refl
take-none (suc n) = refl

-- those behind the first, of the first n
pub drop_first-take : {A : Type 0} (n : ℕ) (xs : List A) → drop 1 (take n xs) ≡ take (n - 1) (drop 1 xs)
drop_first-take zero xs = refl
drop_first-take (suc n) [] = sym (take-none (suc n - 1))
drop_first-take (suc n) (x ∷ xs) = let same : n ≡ suc n - 1 = omega arith in ap (λ k. take k xs) same

-- what is read of a cluster by itself
pub measure-is : (tables : TableValues) (points : List ℕ) (size columns : ℕ) (is_space : Bool)
    → size ≡ length points → columns ≡ columns_of tables points → is_space ≡ is_space_of tables points
    → record { size = size; columns = columns; is_space = is_space } ≡ measure_of tables points
measure-is tables points size columns is_space a b d =
    ap (λ x. measure x columns is_space) a ∙ ap (λ x. measure (length points) x is_space) b ∙ ap (λ x. measure (length points) (columns_of tables points) x) d
  where
    measure : ℕ → ℕ → Bool → Measure
    measure size columns is_space = record { size = size; columns = columns; is_space = is_space }

columns_by_choice-two : (tables : TableValues) (points : List ℕ) → columns_by_choice tables points ≤ 2
columns_by_choice-two tables [] = omega arith
columns_by_choice-two tables (c ∷ rest) = elim (takes_two_by_choice tables c) as (λ b. cond b 2 1 ≤ 2) [ true ↦ omega arith | false ↦ omega arith ]

-- no cluster has more than two columns
pub columns_of-two : (tables : TableValues) (points : List ℕ) → columns_of tables points ≤ 2
columns_of-two tables points = elim (begins_with_end tables points) as (λ b. cond b 0 (cond (list_all (is_invisible tables) points) 0 (cond (list_any (takes_two tables) points) 2 (columns_by_choice tables points))) ≤ 2) [
  | true ↦ omega arith
  | false ↦ elim (list_all (is_invisible tables) points) as (λ b. cond b 0 (cond (list_any (takes_two tables) points) 2 (columns_by_choice tables points)) ≤ 2) [
    | true ↦ omega arith
    | false ↦ elim (list_any (takes_two tables) points) as (λ b. cond b 2 (columns_by_choice tables points) ≤ 2) [ true ↦ omega arith | false ↦ columns_by_choice-two tables points ]
  ]
]

two-measured_all : (tables : TableValues) (cs : List (List ℕ)) (statuses : List Break) → All (λ (c : Cluster). c.columns ≤ 2) (measured_all tables cs statuses)
two-measured_all tables [] statuses = All-nil (λ (c : Cluster). c.columns ≤ 2)
two-measured_all tables (c ∷ cs) statuses =
    All-cons (λ (c : Cluster). c.columns ≤ 2) (measured tables c statuses) (measured_all tables cs (drop (length c) statuses))
    (columns_of-two tables c) (two-measured_all tables cs (drop (length c) statuses))

-- nor has one of a paragraph
pub two-line_clusters : (tables : TableValues) (text : List ℕ) → All (λ (c : Cluster). c.columns ≤ 2) (line_clusters tables text)
unfolding line_clusters
two-line_clusters tables text = two-measured_all tables (cluster_code_points text) (breaks tables text)

-- nor has one that is measured
pub two-done : (tables : TableValues) (text : List ℕ) (left : List (List ℕ)) (done : List Cluster) (place : ℕ) → IsMeasuredTo tables text left done place
    → All (λ (c : Cluster). c.columns ≤ 2) done
two-done tables text left done place m =
    let rest = measured_all tables (map code_points left) (drop place (breaks tables text)) in
    subst (All (λ (c : Cluster). c.columns ≤ 2)) (take_at done rest (length done) refl)
    (All-take (λ (c : Cluster). c.columns ≤ 2) (length done) (done ++ rest)
    (subst (All (λ (c : Cluster). c.columns ≤ 2)) (sym m.so_far) (two-line_clusters tables text)))
