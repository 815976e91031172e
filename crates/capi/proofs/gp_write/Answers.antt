use lib.ListN.{length}
use Rattle.writer.specs.Write.{written_cost}
use Rattle.capi.proofs.Small.{answer_coded, write_small}
use Rattle.capi.proofs.gp_write.Goals as goal

pub coded-requires : goal.coded-requires
coded-requires c =
    let tr = c.args.trace.now in
    let flags = c.args.flags.now in
    answer_coded (written_cost tr flags) c.write.result (write_small tr flags c.args.rents.now (length c.args.buffer.now)) c.write.ensures.answer
