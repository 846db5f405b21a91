mod Relaxing
