-- The goals of `decode_file` that are answered by hand.
use Rattle.std.proofs.Common.{List, ℕ, Err, sym, subst}
use Rattle.op_codec.specs.Spelling.{Spells}
use Rattle.op_codec.specs.Fault.{IsFault}
use Rattle.op_codec.proofs.Feeds.{whole_fed, whole_told}
use Rattle.op_codec.proofs.Whole.{spelled_read, faulty_told}
use Rattle.op_codec.proofs.decode.decode_file.Goals as goal

pub returns-in-Ok-clause-spelled : goal.returns-in-Ok-clause-spelled
returns-in-Ok-clause-spelled c =
    λ ops spelled. (let fed = whole_fed c.args.bytes.now c.new-feed.result c.feed.new.self c.new-feed.ensures c.in-Ok.ensures.outcome in
    spelled_read c.feed.new.self ops c.finish.result (subst (λ (s : List ℕ). Spells s ops) (sym fed) spelled) c.finish.ensures.ok c.finish.ensures.fault)

pub returns-in-Ok-clause-faulty : goal.returns-in-Ok-clause-faulty
returns-in-Ok-clause-faulty c =
    λ frame cause fault. (let fed = whole_fed c.args.bytes.now c.new-feed.result c.feed.new.self c.new-feed.ensures c.in-Ok.ensures.outcome in
    faulty_told c.feed.new.self frame cause c.finish.result (subst (λ (s : List ℕ). IsFault s frame cause) (sym fed) fault) c.finish.ensures.ok c.finish.ensures.fault)

pub returns-in-Err-clause-fault : goal.returns-in-Err-clause-fault
returns-in-Err-clause-fault c = whole_told c.args.bytes.now c.new-feed.result c.feed.new.self c.in-Err.fault c.new-feed.ensures c.in-Err.ensures.outcome

pub returns-in-Err-clause-spelled : goal.returns-in-Err-clause-spelled
returns-in-Err-clause-spelled c =
    λ ops spelled. (let told = whole_told c.args.bytes.now c.new-feed.result c.feed.new.self c.in-Err.fault c.new-feed.ensures c.in-Err.ensures.outcome in
    spelled_read c.args.bytes.now ops (Err c.in-Err.fault) spelled tt told)

pub returns-in-Err-clause-faulty : goal.returns-in-Err-clause-faulty
returns-in-Err-clause-faulty c =
    λ frame cause fault. (let told = whole_told c.args.bytes.now c.new-feed.result c.feed.new.self c.in-Err.fault c.new-feed.ensures c.in-Err.ensures.outcome in
    faulty_told c.args.bytes.now frame cause (Err c.in-Err.fault) fault tt told)
