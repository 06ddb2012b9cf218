use Rattle.fp_relay.proofs.News.{shows-last}
use Rattle.fp_relay.proofs.following.attend_source.Goals as goal

pub returns : goal.returns
returns g c =
    let end = c.follow-end in
    shows-last c.args.last.now end.new.last c.args.showing.now.seen.log end.new.audience.seen.log end.ensures.frames c.requires
    end.ensures.shows
