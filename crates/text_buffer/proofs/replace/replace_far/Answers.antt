-- The rows before the others, theirs, and what is left of those behind.
use Rattle.std.proofs.Common.{◌≡◌, ℕ, ◌+◌, ◌<◌, ◌≤◌, List, ◌++◌, [], length, take, drop, get_or, set, add-zero, ap, ap₂, sym, ◌∙◌, arith}
use Rattle.std.proofs.lemmas.List.{length-append, length-take-le, length-drop, get_or-drop, take-append-le, take-take, take-set-le}
use Rattle.std.specs.List.{concat}
use Rattle.text_buffer.specs.declared.block.Block.{Block}
use Rattle.text_buffer.specs.Buffers.{bytes_in}
use Rattle.text_buffer.specs.Pieces.{points_in}
use Rattle.text_buffer.specs.Blocks.{rows_of, joined, pieces_in}
use Rattle.text_buffer.proofs.Joins.{front-from, joined-between, get-between, joined-dropped}
use Rattle.text_buffer.proofs.Places.{length-rows, length-points, row-at, bytes-row, rows-set, rows-put}
use Rattle.text_buffer.proofs.replace.replace_far.Goals as goal

pub returns-then-end-eq0-clause-ok : goal.returns-then-end-eq0-clause-ok
returns-then-end-eq0-clause-ok g c =
    let old = c.args.blocks.now.items in
    let mid = c.begin_at.new.blocks.items in
    let start = c.in_ok-start.start in
    let end = c.end_of-end.result in
    let others = c.in_ok-others.others in
    let rows = rows_of mid in
    let stands = c.in_ok-start.ensures.stands in
    let a = take start.block rows in
    let n = rows_of others.items in
    let z = drop end.block rows in
    let new : rows_of c.splice.new.row.items ≡ a ++ (n ++ z) = ap rows_of c.in_ok-splice.ensures.ok ∙ rows-put mid others.items start.block end.block in
    let at : c.args.from ≡ length (joined a) = sym c.in_ok-start.ensures.begins ∙ stands.paragraphs ∙ length-points (joined a) in
    let front : joined a ≡ take c.args.from (pieces_in old) = sym (front-from rows start.block c.args.from at) ∙ ap (take c.args.from) c.in_ok-start.ensures.kept in
    let back : drop end.rest (joined z) ≡ drop c.args.to (pieces_in old) =
    ap (λ bs. drop end.rest (joined (drop end.block (rows_of bs)))) (sym c.deref.ensures.value) ∙ c.end_of-end.ensures.behind ∙ ap (λ bs. drop c.args.to (pieces_in bs)) c.deref.ensures.value ∙ ap (drop c.args.to) c.in_ok-start.ensures.kept in
    let whole : joined z ≡ drop c.args.to (pieces_in old) = ap (λ k. drop k (joined z)) (sym c.if-end-eq0.true) ∙ back in
    ap joined new ∙ joined-between a n z ∙ ap₂ (λ x y. x ++ y) front (ap₂ (λ x y. x ++ y) c.in_ok-others.ensures whole)

pub returns-then-end-eq0-clause-front : goal.returns-then-end-eq0-clause-front
returns-then-end-eq0-clause-front g c =
    let mid = c.begin_at.new.blocks.items in
    let start = c.in_ok-start.start in
    let end = c.end_of-end.result in
    let others = c.in_ok-others.others in
    let rows = rows_of mid in
    let stands = c.in_ok-start.ensures.stands in
    let a = take start.block rows in
    let n = rows_of others.items in
    let z = drop end.block rows in
    let new : rows_of c.splice.new.row.items ≡ a ++ (n ++ z) = ap rows_of c.in_ok-splice.ensures.ok ∙ rows-put mid others.items start.block end.block in
    let start_is = c.in_ok-start.ensures.order in
    let low = take-append-le c.args.before.block a (n ++ z) (omega (arith, start_is, length-take-le start.block rows (omega (arith, length-rows mid, stands.within))))
    ∙ take-take c.args.before.block start.block rows start_is ∙ c.in_ok-start.ensures.front in
    ap (take c.args.before.block) new ∙ low

-- others stand in the place of blocks from `i` up to `j`, and this one behind them
record IsBehind {K : Type 0} (mid others now : List (Block K)) (i j q : ℕ) (x : Block K) : Type 0 where
  pub size : q ≡ length (take i (rows_of mid)) + length (rows_of others)
  pub some : 0 < length (drop j (rows_of mid))
  pub rows : rows_of now ≡ take i (rows_of mid) ++ (rows_of others ++ drop j (rows_of mid))
  pub first : get_or (drop j (rows_of mid)) 0 [] ≡ get_or (rows_of mid) j []
  pub own : get_or (rows_of mid) j [] ≡ x.pieces.items

module _ {K : Type 0} (mid others now : List (Block K)) (i j q : ℕ) (x : Block K) where
  is-behind : i ≤ length mid → j < length mid → q ≡ i + length others → now ≡ take i mid ++ (others ++ drop j mid) → x ≡ get_or now q x → IsBehind mid others now i j q x
  is-behind order there at items is =
      let rows = rows_of mid in
      let a = take i rows in
      let n = rows_of others in
      let z = drop j rows in
      let size : q ≡ length a + length n = omega (arith, length-take-le i rows (omega (arith, length-rows mid, order)), length-rows others, at) in
      let some : 0 < length z = omega (arith, length-drop j rows, length-rows mid, there) in
      let all = ap rows_of items ∙ rows-put mid others i j in
      let first = get_or-drop j rows 0 [] ∙ ap (λ k. get_or rows k []) (add-zero j) in
      let within : q < length now = omega (arith, size, some, ap length all, length-append a (n ++ z), length-append n z, length-rows now) in
      record {
        size = size;
        some = some;
        rows = all;
        first = first;
        own = sym (ap (λ r. get_or r q []) all ∙ get-between a n z q size ∙ first) ∙ row-at now q x within is;
      }

  -- which loses its first
  rows-cut : (new : Block K) (rest : ℕ) → IsBehind mid others now i j q x → new.pieces.items ≡ drop rest x.pieces.items
      → rows_of (set now q new) ≡ set (take i (rows_of mid) ++ (rows_of others ++ drop j (rows_of mid))) q (drop rest (get_or (take i (rows_of mid) ++ (rows_of others ++ drop j (rows_of mid))) q []))
  rows-cut new rest b is =
      let row = get-between (take i (rows_of mid)) (rows_of others) (drop j (rows_of mid)) q b.size ∙ b.first ∙ b.own in
      rows-set now q new ∙ ap₂ (λ r t. set r q t) b.rows (is ∙ ap (drop rest) (sym row))

pub drop_front-requires-clause-within : goal.drop_front-requires-clause-within
drop_front-requires-clause-within g c =
    let mid = c.begin_at.new.blocks.items in
    let start = c.in_ok-start.start in
    let end = c.end_of-end.result in
    let some : 0 < end.rest = omega (arith, c.if-end-eq0.false) in
    let there : end.block < length mid = omega (arith, c.end_of-end.ensures.there some, ap length c.deref.ensures.value) in
    let b = is-behind mid c.in_ok-others.others.items _ start.block end.block (start.block + c.len-count.result) c.index_mut.result.now (omega (arith, c.in_ok-start.ensures.stands.within)) there (omega (arith, c.len-count.ensures, c.in_ok-others.others.ok)) c.in_ok-splice.ensures.ok
    c.index_mut.ensures.value in
    omega (arith, c.end_of-end.ensures.rest some, ap (λ bs. length (get_or (rows_of bs) end.block [])) c.deref.ensures.value, ap length b.own)

pub drop_front-requires-clause-few : goal.drop_front-requires-clause-few
drop_front-requires-clause-few g c =
    let mid = c.begin_at.new.blocks.items in
    let start = c.in_ok-start.start in
    let end = c.end_of-end.result in
    let some : 0 < end.rest = omega (arith, c.if-end-eq0.false) in
    let there : end.block < length mid = omega (arith, c.end_of-end.ensures.there some, ap length c.deref.ensures.value) in
    let b = is-behind mid c.in_ok-others.others.items _ start.block end.block (start.block + c.len-count.result) c.index_mut.result.now (omega (arith, c.in_ok-start.ensures.stands.within)) there (omega (arith, c.len-count.ensures, c.in_ok-others.others.ok)) c.in_ok-splice.ensures.ok
    c.index_mut.ensures.value in
    omega (arith, ap (λ t. bytes_in (concat (points_in t))) b.own, bytes-row mid end.block there, ap (λ t. bytes_in (concat (points_in t))) c.in_ok-start.ensures.kept, c.requires.few)

pub returns-clause-ok : goal.returns-clause-ok
returns-clause-ok g c =
    let old = c.args.blocks.now.items in
    let mid = c.begin_at.new.blocks.items in
    let start = c.in_ok-start.start in
    let end = c.end_of-end.result in
    let rows = rows_of mid in
    let stands = c.in_ok-start.ensures.stands in
    let a = take start.block rows in
    let z = drop end.block rows in
    let at : c.args.from ≡ length (joined a) = sym c.in_ok-start.ensures.begins ∙ stands.paragraphs ∙ length-points (joined a) in
    let front : joined a ≡ take c.args.from (pieces_in old) = sym (front-from rows start.block c.args.from at) ∙ ap (take c.args.from) c.in_ok-start.ensures.kept in
    let back : drop end.rest (joined z) ≡ drop c.args.to (pieces_in old) =
    ap (λ bs. drop end.rest (joined (drop end.block (rows_of bs)))) (sym c.deref.ensures.value) ∙ c.end_of-end.ensures.behind ∙ ap (λ bs. drop c.args.to (pieces_in bs)) c.deref.ensures.value ∙ ap (drop c.args.to) c.in_ok-start.ensures.kept in
    let some : 0 < end.rest = omega (arith, c.if-end-eq0.false) in
    let there : end.block < length mid = omega (arith, c.end_of-end.ensures.there some, ap length c.deref.ensures.value) in
    let others = c.in_ok-others.others in
    let b = is-behind mid others.items _ start.block end.block (start.block + c.len-count.result) c.index_mut.result.now (omega (arith, stands.within)) there (omega (arith, c.len-count.ensures, others.ok)) c.in_ok-splice.ensures.ok c.index_mut.ensures.value in
    let inside : end.rest < length (get_or rows end.block []) = omega (arith, c.end_of-end.ensures.rest some, ap (λ bs. length (get_or (rows_of bs) end.block [])) c.deref.ensures.value) in
    ap joined (rows-cut mid others.items _ start.block end.block (start.block + c.len-count.result) c.index_mut.result.now c.drop_front.new.self end.rest b c.drop_front.ensures)
    ∙ joined-dropped a (rows_of others.items) z _ end.rest b.size b.some (omega (arith, inside, ap length b.first)) ∙ ap₂ (λ x y. x ++ y) front (ap₂ (λ x y. x ++ y) c.in_ok-others.ensures back)

pub returns-clause-front : goal.returns-clause-front
returns-clause-front g c =
    let mid = c.begin_at.new.blocks.items in
    let start = c.in_ok-start.start in
    let end = c.end_of-end.result in
    let rows = rows_of mid in
    let stands = c.in_ok-start.ensures.stands in
    let start_is = c.in_ok-start.ensures.order in
    let some : 0 < end.rest = omega (arith, c.if-end-eq0.false) in
    let there : end.block < length mid = omega (arith, c.end_of-end.ensures.there some, ap length c.deref.ensures.value) in
    let others = c.in_ok-others.others in
    let b = is-behind mid others.items _ start.block end.block (start.block + c.len-count.result) c.index_mut.result.now (omega (arith, stands.within)) there (omega (arith, c.len-count.ensures, others.ok)) c.in_ok-splice.ensures.ok c.index_mut.ensures.value in
    let low = take-append-le c.args.before.block (take start.block rows) (rows_of others.items ++ drop end.block rows) (omega (arith, start_is, length-take-le start.block rows (omega (arith, length-rows mid, stands.within))))
    ∙ take-take c.args.before.block start.block rows start_is ∙ c.in_ok-start.ensures.front in
    ap (take c.args.before.block) (rows-cut mid others.items _ start.block end.block (start.block + c.len-count.result) c.index_mut.result.now c.drop_front.new.self end.rest b c.drop_front.ensures)
    ∙ take-set-le c.args.before.block (take start.block rows ++ (rows_of others.items ++ drop end.block rows)) (start.block + c.len-count.result) _ (omega (arith, start_is)) ∙ low
