-- Paragraphs of which the rows of some are dropped.
use Rattle.std.proofs.Common.{◌≡◌, ℕ, zero, suc, ◌+◌, ◌<◌, ◌≤◌, Bool, true, false, cond, ◌&&◌, ◌||◌, ◌==◌, ◌%◌, not, None, Option, ◌-◌, List, [], ◌∷◌, get_or, take, drop, slice_range, refl, sym, ap, subst, ◌∙◌, arith}
use Rattle.std.proofs.lemmas.Bool.{le-leb, lt-ltb}
use Rattle.std.proofs.lemmas.List.Elements.{All-nil, All-cons, All-head, All-tail}
use Rattle.std.specs.List.{All}
use Rattle.std.specs.Option.{option_map_or}
use Rattle.std.specs.Prelude.{is_some, nat_lt, IfSome}
use Rattle.bg_types.specs.declared.class.Base.{Base}
use Rattle.unicode_tables.specs.Tables.{TableValues}
use Rattle.text_buffer.specs.Buffers.{paragraphs_in, kept_in}
use Rattle.text_buffer.specs.Forgetting.{stays, left_of}
use Rattle.text_buffer.specs.declared.spared.Spared.{Spared}
use Rattle.live_document.specs.Keeping.{Rows, KeptText, rows_of_text, rows_weight, weight_held, flags, is_kept, IsLaid}
use Rattle.live_document.proofs.Beside.{held-cons}

-- ---- one paragraph

laid-one : (tables : TableValues) (width : ℕ) (base : Base) (b : Bool) (was is : Option Rows) (points own : List ℕ) → is ≡ cond b was None → own ≡ points
    → IfSome was (λ (rows : Rows). rows ≡ rows_of_text tables width base points) → IfSome is (λ (rows : Rows). rows ≡ rows_of_text tables width base own)
laid-one tables width base true was is points own e f laid =
    subst (λ (k : Option Rows). IfSome k (λ (rows : Rows). rows ≡ rows_of_text tables width base own)) (sym e)
    (subst (λ ps. IfSome was (λ (rows : Rows). rows ≡ rows_of_text tables width base ps)) (sym f) laid)
laid-one tables width base false was is points own e f laid =
    subst (λ (k : Option Rows). IfSome k (λ (rows : Rows). rows ≡ rows_of_text tables width base own)) (sym e) tt

less-one : (b : Bool) (was is : Option Rows) → is ≡ cond b was None
    → rows_weight (option_map_or (λ (rows : Rows). rows) is []) ≤ rows_weight (option_map_or (λ (rows : Rows). rows) was [])
less-one true was is e = let same = ap (λ (k : Option Rows). rows_weight (option_map_or (λ (rows : Rows). rows) k [])) e in omega arith
less-one false was is e = let none : rows_weight (option_map_or (λ (rows : Rows). rows) is []) ≡ 0 = ap (λ (k : Option Rows). rows_weight (option_map_or (λ (rows : Rows). rows) k [])) e in omega arith

stays-inside : (s : Spared) (n : ℕ) (was is : Option Rows) → s.from ≤ n → n < s.to → is ≡ cond (stays s n) was None → is_some is ≡ is_some was
stays-inside s n was is low high e =
    let over = not ((n % s.step) == s.turn) in
    ap (λ (k : Option Rows). is_some k) e
    ∙ ap (λ b. is_some (cond ((b && nat_lt n s.to) || over) was None)) (le-leb s.from n low)
    ∙ ap (λ b. is_some (cond (b || over) was None)) (lt-ltb n s.to high)

kept-one : (b : Bool) (was is : Option Rows) → is ≡ cond b was None → is_some is ≡ true → is_some was ≡ true
kept-one true was is e there = sym (ap (λ (k : Option Rows). is_some k) e) ∙ there
kept-one false was is e there = let none = ap (λ (k : Option Rows). is_some k) e in cc

-- ---- and all

pub laid-left : (tables : TableValues) (width : ℕ) (base : Base) (s : Spared) (first : ℕ) (old new : KeptText) → paragraphs_in new ≡ paragraphs_in old → kept_in new ≡ left_of s first (kept_in old)
    → All (IsLaid tables width base) old → All (IsLaid tables width base) new
laid-left tables width base s first old [] e f all = All-nil (IsLaid tables width base)
laid-left tables width base s first [] (q ∷ new) e f all = cc
laid-left tables width base s first (p ∷ old) (q ∷ new) e f all =
    All-cons (IsLaid tables width base) q new
    (laid-one tables width base (stays s first) p.kept q.kept p.points q.points (ap (λ l. get_or l 0 None) f) (ap (λ l. get_or l 0 []) e) (All-head (IsLaid tables width base) p old all))
    (laid-left tables width base s (first + 1) old new (ap (drop 1) e) (ap (drop 1) f) (All-tail (IsLaid tables width base) p old all))

pub less-left : (s : Spared) (first : ℕ) (old new : KeptText) → kept_in new ≡ left_of s first (kept_in old) → weight_held new ≤ weight_held old
less-left s first old [] f = omega arith
less-left s first [] (q ∷ new) f = cc
less-left s first (p ∷ old) (q ∷ new) f =
    let was = held-cons p old in
    let is = held-cons q new in
    let own = less-one (stays s first) p.kept q.kept (ap (λ l. get_or l 0 None) f) in
    let later = less-left s (first + 1) old new (ap (drop 1) f) in
    omega arith

-- of a stretch
less-front : (s : Spared) (first : ℕ) (old new : KeptText) (n : ℕ) → kept_in new ≡ left_of s first (kept_in old) → weight_held (take n new) ≤ weight_held (take n old)
less-front s first old new zero f = omega arith
less-front s first old [] (suc n) f = omega arith
less-front s first [] (q ∷ new) (suc n) f = cc
less-front s first (p ∷ old) (q ∷ new) (suc n) f =
    let was = held-cons p (take n old) in
    let is = held-cons q (take n new) in
    let own = less-one (stays s first) p.kept q.kept (ap (λ l. get_or l 0 None) f) in
    let later = less-front s (first + 1) old new n (ap (drop 1) f) in
    omega arith

less-within : (s : Spared) (first : ℕ) (old new : KeptText) (from n : ℕ) → kept_in new ≡ left_of s first (kept_in old) → weight_held (take n (drop from new)) ≤ weight_held (take n (drop from old))
less-within s first old new zero n f = less-front s first old new n f
less-within s first old [] (suc from) n f = less-nothing n old
  where
    less-nothing : (n : ℕ) (old : KeptText) → weight_held (take n (drop (suc from) [])) ≤ weight_held (take n (drop (suc from) old))
    less-nothing zero old = omega arith
    less-nothing (suc n) old = omega arith
less-within s first [] (q ∷ new) (suc from) n f = cc
less-within s first (p ∷ old) (q ∷ new) (suc from) n f = less-within s (first + 1) old new from n (ap (drop 1) f)

pub less-between : (s : Spared) (old new : KeptText) (from to : ℕ) → kept_in new ≡ left_of s 0 (kept_in old) → weight_held (slice_range new from to) ≤ weight_held (slice_range old from to)
less-between s old new from to f = less-within s 0 old new from (to - from) f

inside-left : (s : Spared) (first : ℕ) (old new : KeptText) → kept_in new ≡ left_of s first (kept_in old) → (k : ℕ) → s.from ≤ first + k → first + k < s.to
    → is_kept (flags new) k ≡ is_kept (flags old) k
inside-left s first [] [] f k low high = refl
inside-left s first (p ∷ old) [] f k low high = cc
inside-left s first [] (q ∷ new) f k low high = cc
inside-left s first (p ∷ old) (q ∷ new) f zero low high = stays-inside s first p.kept q.kept (omega arith) (omega arith) (ap (λ l. get_or l 0 None) f)
inside-left s first (p ∷ old) (q ∷ new) f (suc k) low high = inside-left s (first + 1) old new (ap (drop 1) f) k (omega arith) (omega arith)

pub inside-all : (s : Spared) (old new : KeptText) → kept_in new ≡ left_of s 0 (kept_in old) → (k : ℕ) → s.from ≤ k → k < s.to → is_kept (flags new) k ≡ is_kept (flags old) k
inside-all s old new f k low high = inside-left s 0 old new f k (omega arith) (omega arith)

-- nothing more is kept
pub kept-left : (s : Spared) (first : ℕ) (old new : KeptText) → kept_in new ≡ left_of s first (kept_in old) → (k : ℕ) → is_kept (flags new) k ≡ true → is_kept (flags old) k ≡ true
kept-left s first old [] f k there = cc
kept-left s first [] (q ∷ new) f k there = cc
kept-left s first (p ∷ old) (q ∷ new) f zero there = kept-one (stays s first) p.kept q.kept (ap (λ l. get_or l 0 None) f) there
kept-left s first (p ∷ old) (q ∷ new) f (suc k) there = kept-left s (first + 1) old new (ap (drop 1) f) k there
