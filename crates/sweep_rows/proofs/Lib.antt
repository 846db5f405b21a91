mod Walking
mod Rowing
