-- What the frames that pass add to the counters.
use Rattle.served_link.specs.Watching.{Sight, CameIn, WentOut}
use Rattle.served_link.specs.Counting.{NodeCounters, frame_came, frame_went}

abbrev pub counted_sight : Sight → NodeCounters → NodeCounters
counted_sight (CameIn link frame outcome) counters = frame_came link frame outcome counters
counted_sight (WentOut link frame) counters = frame_went link frame counters
