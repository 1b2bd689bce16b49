-- The calls of 01's "Station ends": Opening, Making and Receiving, each as tests in 01's order and then one effect.
-- What a call answers and leaves where it is refused is said in ground and fields, once for all calls.
-- Below lie ends and semijoin; the answer from an end's store is defined in answerer.
pub mod Opening
pub mod Making
pub mod Receiving
