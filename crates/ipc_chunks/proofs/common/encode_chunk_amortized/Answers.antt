use Rattle.std.proofs.Common.{map, rules}
use Rattle.ipc_tracker.specs.Listings.{listed}
use Rattle.ipc_tracker.specs.Trackers.{remembered}
use Rattle.ipc_chunks.proofs.SameMessages.{remembered_with_room}
use Rattle.ipc_chunks.proofs.common.encode_chunk_amortized.Goals as goal

pub returns-clause-encodes : goal.returns-clause-encodes
returns-clause-encodes c =
    let list = map listed c.in_ok-dictionaries.dictionaries.items in
    record {
      writable = search rules;
      list = list;
      lists = search rules;
      lengths = search rules;
      said = search rules;
      are = search rules;
      remembers =
          remembered_with_room list (remembered c.args.dictionary_tracker.now) (remembered c.make_room.new.self) (remembered c.remember_all.new.self) c.make_room.ensures.same
          c.remember_all.ensures.memory;
    }
