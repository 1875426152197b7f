mod Apps
mod CallLemmas
mod FaultLemmas
mod OptionLemmas
