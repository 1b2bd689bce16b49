-- 01's "The planner". Choice has points 2 to 5 over any kind of estimate; Plan puts the estimate of 01 in, and point 1 with it.
-- Promise says what holds of what is handed out; Few has steps, and numbers of steps, as the code holds them.
-- Below lies estimates, which has the kinds of estimate; demands, above, says the promise of the calls that plan.
pub mod Choice
pub mod Plan
pub mod Promise
pub mod Few
