-- The goals of `read_text` that are answered by hand.
use Rattle.std.proofs.Common.{◌≡◌, ◌≤◌, List, ℕ, length, sym, subst, arith, Result, Ok, Err}
use Rattle.std.specs.Prelude.{IfOk, string_bytes, encode_utf8_all}
use Rattle.rga_tree.specs.TextOf.{text}
use Rattle.desk_files.proofs.TextSize.{encoded_within}
use Rattle.desk_files.proofs.desk.read_text.Goals as goal

ok_size : {A E : Type 0} (bytes_of : A → List ℕ) (bytes : List ℕ) (r : Result A E) → length bytes ≤ 4_000_000 → IfOk r (λ a. bytes_of a ≡ bytes) → IfOk r (λ a. length (bytes_of a) ≤ 4_000_000)
ok_size bytes_of bytes (Ok a) small is = subst (λ (l : List ℕ). length l ≤ 4_000_000) (sym is) small
ok_size bytes_of bytes (Err e) small is = tt

pub returns-clause-size : goal.returns-clause-size
returns-clause-size c =
    let bytes = encoded_within (text c.args.desk.now.set) in
    let characters = c.text.ensures.limited in
    let small : length (encode_utf8_all (text c.args.desk.now.set)) ≤ 4_000_000 = omega (arith, bytes, characters) in
    ok_size string_bytes (encode_utf8_all (text c.args.desk.now.set)) c.text.result small c.text.ensures.ok
