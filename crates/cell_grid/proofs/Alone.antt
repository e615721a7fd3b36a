-- A run of one cluster.
use Rattle.std.proofs.Common.{◌≡◌, ℕ, ◌+◌, ◌*◌, ◌^◌, ◌<◌, Bool, true, false, cond, [], ◌∷◌, refl, sym, ap, subst, ◌∙◌, arith}
use Rattle.reorder.specs.VisualList.{is_odd}
use Rattle.paragraphs.specs.declared.span.Span.{Span}
use Rattle.cell_grid.specs.declared.cluster_run.ClusterRun.{ClusterRun}
use Rattle.cell_grid.specs.declared.entry.Entry.{Entry}
use Rattle.cell_grid.specs.declared.kept_span.KeptSpan.{KeptSpan}
use Rattle.cell_grid.specs.KeptSpans.{span_kept}
use Rattle.cell_grid.specs.Shifting.{StaysInReach}
use Rattle.cell_grid.specs.Runs.{run_span, byte_count, point_count, span_after, run_entries, run_columns, IsInReach}
use Rattle.cell_grid.proofs.Standing.{span_of}

pub span-is : (a b c d : ℕ) (t : Span) → a ≡ t.first_byte → b ≡ t.end_byte → c ≡ t.first_place → d ≡ t.end_place → span_of a b c d ≡ t
span-is a b c d t e f g h =
    ap (λ x. span_of x b c d) e ∙ ap (λ x. span_of t.first_byte x c d) f ∙ ap (λ x. span_of t.first_byte t.end_byte x d) g
    ∙ ap (λ x. span_of t.first_byte t.end_byte t.first_place x) h

abbrev pub entry_by : Span → (column level columns : ℕ) → Entry
entry_by s column level columns = record { span = s; column = column; level = level; columns = columns }

entry-is : (s : Span) (column level columns : ℕ) (e : Entry) → s ≡ e.span → column ≡ e.column → level ≡ e.level → columns ≡ e.columns → entry_by s column level columns ≡ e
entry-is s column level columns e at here high wide =
    ap (λ x. entry_by x column level columns) at ∙ ap (λ x. entry_by e.span x level columns) here ∙ ap (λ x. entry_by e.span e.column x columns) high
    ∙ ap (entry_by e.span e.column e.level) wide

none-more : (x m : ℕ) → x + 0 * m ≡ x
none-more x m = omega arith

pub none-after : (s : Span) → span_after 0 s ≡ s
none-after s =
    span-is (s.first_byte + 0 * byte_count s) (s.end_byte + 0 * byte_count s) (s.first_place + 0 * point_count s) (s.end_place + 0 * point_count s) s
    (none-more s.first_byte (byte_count s)) (none-more s.end_byte (byte_count s)) (none-more s.first_place (point_count s)) (none-more s.end_place (point_count s))

-- what every number of 32 bits keeps to
pub record IsOf32Bits (s : Span) : Type 0 where
  pub first_byte : s.first_byte < 2 ^ 32
  pub end_byte : s.end_byte < 2 ^ 32
  pub first_place : s.first_place < 2 ^ 32
  pub end_place : s.end_place < 2 ^ 32

-- the entry of this cluster
abbrev entry_of : (column : ℕ) → ClusterRun → (cluster number : ℕ) → Entry
entry_of column r cluster number = entry_by (span_after cluster (run_span r)) (column + number * r.columns) r.level r.columns

same-cond : (b : Bool) (x : ℕ) → cond b x x ≡ x
same-cond true x = refl
same-cond false x = refl

-- one whose kept span is that of an entry
abbrev pub alone : KeptSpan → Entry → ClusterRun
alone s e = record { span = s; level = e.level; columns = e.columns }

-- with none behind it
abbrev lone : KeptSpan → KeptSpan
lone s = record s { further = 0 }

module _ (s : KeptSpan) (e : Entry) (is : span_kept (lone s) ≡ e.span) where
  lone-entries : run_entries e.column (alone (lone s) e) ≡ e ∷ []
  lone-entries =
      ap (λ c. entry_of e.column (alone (lone s) e) c 0 ∷ []) (same-cond (is_odd e.level) 0)
      ∙ ap (λ x. x ∷ []) (entry-is (span_after 0 (span_kept (lone s))) (e.column + 0 * e.columns) e.level e.columns e (none-after (span_kept (lone s)) ∙ is) (none-more e.column e.columns) refl refl)

  lone-reach : IsOf32Bits e.span → IsInReach (alone (lone s) e)
  lone-reach bits =
      subst (λ (t : Span). StaysInReach (0 * byte_count t) (0 * point_count t) t) (sym is)
      (record {
        first_byte = subst (λ k. k < 2 ^ 32) (sym (none-more e.span.first_byte (byte_count e.span))) bits.first_byte;
        end_byte = subst (λ k. k < 2 ^ 32) (sym (none-more e.span.end_byte (byte_count e.span))) bits.end_byte;
        first_place = subst (λ k. k < 2 ^ 32) (sym (none-more e.span.first_place (point_count e.span))) bits.first_place;
        end_place = subst (λ k. k < 2 ^ 32) (sym (none-more e.span.end_place (point_count e.span))) bits.end_place;
      })

module _ (s : KeptSpan) (e : Entry) (is : span_kept s ≡ e.span) (one : s.further ≡ 0) where
  same : s ≡ lone s
  same = ap (λ n. record s { further = n }) one

  kept : span_kept (lone s) ≡ e.span
  kept = subst (λ (t : KeptSpan). span_kept t ≡ e.span) same is

  pub alone-entries : run_entries e.column (alone s e) ≡ e ∷ []
  alone-entries = subst (λ (t : KeptSpan). run_entries e.column (alone t e) ≡ e ∷ []) (sym same) (lone-entries s e kept)

  pub alone-columns : run_columns (alone s e) ≡ e.columns
  alone-columns = let none : (0 + 1) * e.columns ≡ e.columns = omega arith in ap (λ n. (n + 1) * e.columns) one ∙ none

  pub alone-reach : IsOf32Bits e.span → IsInReach (alone s e)
  alone-reach bits = subst (λ (t : KeptSpan). IsInReach (alone t e)) (sym same) (lone-reach s e kept bits)
